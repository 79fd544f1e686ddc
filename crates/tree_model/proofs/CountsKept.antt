-- What is inserted, moved or taken out leaves the counts of open elements right: each open element keeps its name.
use Rattle.std.proofs.Common.{◌≡◌, ℕ, Bool, ap, ◌∙◌, List}
use Rattle.tree_forest.specs.Changes.{detached, made, made_element, with_attributes}
use Rattle.tree_forest.specs.Forest.{Forest, IsElement, comment, doctype, element_of, kind_at, nodes}
use Rattle.tree_forest.specs.Places.{Place, below, put, put_node, with_doctype, words}
use Rattle.html_lexemes.specs.declared.names.Attribute.{Attribute}
use Rattle.html_lexemes.specs.declared.names.QualName.{QualName}
use Rattle.tree_model.specs.Building.{Building, are_counted}
use Rattle.tree_model.specs.Laws.{Laws}
use Rattle.tree_model.specs.Sound.{Sound}
use Rattle.tree_model.proofs.CountedLemmas.{counted_stays}

module _ (laws : Laws) (counts : List ℕ) (b : Building) (sound : Sound b) where
  pub kept_by : (g : Forest) → ((n : ℕ) → IsElement n b.forest → kind_at n g ≡ kind_at n b.forest) →
      are_counted counts b.stack g ≡ are_counted counts b.stack b.forest
  kept_by g kinds = counted_stays counts b.stack b.forest g
      (λ n i. ap (λ k. (element_of k).name) (kinds n (sound.elements n i)))

  pub element_kept : (place : Place) (name : QualName) (attributes : List Attribute) (t p : Bool) →
      are_counted counts b.stack (put_node place (nodes b.forest) (made_element name attributes t p b.forest))
      ≡ are_counted counts b.stack b.forest
  element_kept place name attributes t p =
      let g = made_element name attributes t p b.forest in
      kept_by (put_node place (nodes b.forest) g) (λ n is. laws.put_stays place (nodes b.forest) n g
      ∙ laws.element_stays name attributes t p n b.forest (laws.element_there n b.forest is))

  pub doctype_kept : (name public_id system_id : List ℕ) →
      are_counted counts b.stack (with_doctype name public_id system_id b.forest)
      ≡ are_counted counts b.stack b.forest
  doctype_kept name public_id system_id =
      let kind = doctype name public_id system_id in
      kept_by (with_doctype name public_id system_id b.forest)
      (λ n is. laws.put_stays (below 0) (nodes b.forest) n (made kind b.forest)
      ∙ laws.leaf_stays kind n b.forest (laws.element_there n b.forest is))

  pub comment_kept : (place : Place) (cs : List ℕ) →
      are_counted counts b.stack (put_node place (nodes b.forest) (made (comment cs) b.forest))
      ≡ are_counted counts b.stack b.forest
  comment_kept place cs =
      let g = made (comment cs) b.forest in
      kept_by (put_node place (nodes b.forest) g) (λ n is. laws.put_stays place (nodes b.forest) n g
      ∙ laws.leaf_stays (comment cs) n b.forest (laws.element_there n b.forest is))

  pub said_kept : (place : Place) (cs : List ℕ) →
      are_counted counts b.stack (put place (words cs) b.forest) ≡ are_counted counts b.stack b.forest
  said_kept place cs = kept_by (put place (words cs) b.forest) (λ n is. laws.words_stay place cs n b.forest is)

  pub attributed_kept : (n : ℕ) (attributes : List Attribute) →
      are_counted counts b.stack (with_attributes n attributes b.forest) ≡ are_counted counts b.stack b.forest
  attributed_kept n attributes = counted_stays counts b.stack b.forest (with_attributes n attributes b.forest)
      (λ m i. laws.attribute_names n m attributes b.forest)

  pub out_kept : (last : ℕ) →
      are_counted counts b.stack (detached last b.forest) ≡ are_counted counts b.stack b.forest
  out_kept last = kept_by (detached last b.forest) (λ n is. laws.out_stays last n b.forest)

  pub placed_kept : (place : Place) (last : ℕ) →
      are_counted counts b.stack (put_node place last (detached last b.forest))
      ≡ are_counted counts b.stack b.forest
  placed_kept place last = kept_by (put_node place last (detached last b.forest))
      (λ n is. laws.put_stays place last n (detached last b.forest) ∙ laws.out_stays last n b.forest)
