-- Nodes that are made leave a forest: one that stands alone, a template with its contents, and one that is put at once.
use Rattle.std.proofs.Common.{◌≡◌, ◌+◌, ◌≤◌, ◌⊎◌, ◌∙◌, [], ◌∷◌, Bool, List, None, Option, Some, ap, arith, false, inl}
use Rattle.std.proofs.Common.{inr, refl, subst, suc, sym, true, ℕ}
use Rattle.html_lexemes.specs.declared.names.Attribute.{Attribute}
use Rattle.html_lexemes.specs.declared.names.QualName.{QualName}
use Rattle.tree_forest.specs.Changes.{made, made_element}
use Rattle.tree_forest.specs.Conditions.{CanPut, IsPlace, is_from}
use Rattle.tree_forest.specs.Forest.{Forest, Holds, Kind, children_at, contents_of, doctype, document, element_of}
use Rattle.tree_forest.specs.Forest.{kind_at, nodes, text, text_of}
use Rattle.tree_forest.specs.Orders.{Above, AreDistinct, AtOrAbove, IsDocument, IsForest, IsIn, IsParent, child}
use Rattle.tree_forest.specs.Orders.{further, of_child, of_contents}
use Rattle.tree_forest.specs.Places.{Child, Place, before, below, neighbour, node, put, put_node, put_words}
use Rattle.tree_forest.specs.Places.{with_doctype, words}
use Rattle.tree_forest.proofs.KeptForests.{IsGrown, grown}
use Rattle.tree_forest.proofs.MovedNodes.{put_node_kept, said_kept}
use Rattle.tree_forest.proofs.Nodes.{children_made, contents_made, contents_made_at, holds_parent, kind_made, kind_new}
use Rattle.tree_forest.proofs.Nodes.{same_some, size_made}
use Rattle.tree_forest.proofs.Relations.{either, first_edge}

larger : (n m : ℕ) → m ≡ suc n → n ≤ m
larger n m e = omega arith

pub edge_made : (kind : Kind) (f : Forest) → (element_of kind).contents ≡ None → (a b : ℕ) →
    IsParent (made kind f) a b → IsParent f a b
edge_made kind f plain a b (of_child _ _ i) = of_child a b (subst (IsIn b) (children_made a kind f) i)
edge_made kind f plain a b (of_contents _ _ e) = of_contents a b (sym (contents_made a kind f plain) ∙ e)

module _ (kind : Kind) (f : Forest) (forest : IsForest f) where
  same_kind : (a b : ℕ) → IsParent f a b → kind_at b (made kind f) ≡ kind_at b f
  same_kind a b e = kind_made b kind f (forest.within a b e)

  pub leaf_kept : (element_of kind).contents ≡ None → IsForest (made kind f)
  leaf_kept plain = grown f (made kind f) 0 (λ _. ⊥) forest (record {
    size = larger (nodes f) (nodes (made kind f)) (size_made kind f);
    edges = λ a b e. inl (edge_made kind f plain a b e);
    held = λ b s. absurd s;
    only = λ a b s. absurd s;
    apart = λ b s. absurd s;
    root = λ s. s;
    first = kind_made 0 kind f forest.page.0 ∙ forest.page.1.0;
    once = λ a. subst AreDistinct (sym (children_made a kind f)) (forest.once a);
    childless = λ a b i is.
        let old = subst (IsIn b) (children_made a kind f) i in
        forest.childless a b old (sym (same_kind a b (of_child a b old)) ∙ is);
    contents = λ a b e.
        let old = sym (contents_made a kind f plain) ∙ e in
        same_kind a b (of_contents a b old) ∙ forest.contents a b old;
  })

-- the node that a place is named by is there
place_held : (f : Forest) → IsForest f → (place : Place) → IsPlace place f → Holds (is_from place) f
place_held f forest (below p) held = held
place_held f forest (before s) stands = forest.within stands.0 s (of_child stands.0 s stands.1)

-- a template, and what holds its contents
module _ (kind : Kind) (f : Forest) (forest : IsForest f)
    (template : (element_of kind).contents ≡ Some (nodes f + 1)) where
  abbrev both : Forest
  both = made document (made kind f)

  size_both : nodes both ≡ suc (suc (nodes f))
  size_both = size_made document (made kind f) ∙ ap suc (size_made kind f)

  children_both : (a : ℕ) → children_at a both ≡ children_at a f
  children_both a = children_made a document (made kind f) ∙ children_made a kind f

  kind_both : (b : ℕ) → Holds b f → kind_at b both ≡ kind_at b f
  kind_both b held =
      let size = size_made kind f in
      let more : Holds b (made kind f) = omega arith in
      kind_made b document (made kind f) more ∙ kind_made b kind f held

  contents_both : (a b : ℕ) → contents_of a both ≡ Some b →
      (contents_of a f ≡ Some b) ⊎ ((a ≡ nodes f) × (b ≡ nodes f + 1))
  contents_both a b e =
      let here : contents_of a (made kind f) ≡ Some b = sym (contents_made a document (made kind f) refl) ∙ e in
      either (λ same. inl (sym same ∙ here))
      (λ is. inr (is.0, same_some b (nodes f + 1) (sym here ∙ is.1 ∙ template)))
      (contents_made_at a kind f)

  edge_both : (a b : ℕ) → IsParent both a b → IsParent f a b ⊎ ((a ≡ nodes f) × (b ≡ nodes f + 1))
  edge_both a b (of_child _ _ i) = inl (of_child a b (subst (IsIn b) (children_both a) i))
  edge_both a b (of_contents _ _ e) = either (λ old. inl (of_contents a b old)) (λ new. inr new) (contents_both a b e)

  not_old : (a b : ℕ) → b ≡ nodes f + 1 → ¬ (IsParent f a b)
  not_old a b s e = let held = forest.within a b e in absurd (omega arith)

  not_above : (b : ℕ) → b ≡ nodes f + 1 → ¬ (AtOrAbove (IsParent f) b (nodes f))
  not_above b s (inl e) = absurd (omega arith)
  not_above b s (inr up) =
      let edge = first_edge (IsParent f) b (nodes f) up in
      let held = holds_parent b edge.0 f edge.1 in absurd (omega arith)

  contents_stand : (b : ℕ) → b ≡ nodes f + 1 → IsDocument b both
  contents_stand b s =
      let size = size_made kind f in
      let at : nodes (made kind f) ≡ b = omega arith in
      subst (λ n. IsDocument n both) at (kind_new document (made kind f))

  template_grown : IsGrown f both (nodes f) (λ b. b ≡ nodes f + 1)
  template_grown = record {
    size = let size = size_both in omega arith;
    edges = edge_both;
    held = λ b s. let size = size_both in omega arith;
    only = λ a b s e. either (λ old. absurd (not_old a b s old)) (λ new. new.0) (edge_both a b e);
    apart = not_above;
    root = λ s. omega arith;
    first = kind_both 0 forest.page.0 ∙ forest.page.1.0;
    once = λ a. subst AreDistinct (sym (children_both a)) (forest.once a);
    childless = λ a b i is.
        let old = subst (IsIn b) (children_both a) i in
        forest.childless a b old (sym (kind_both b (forest.within a b (of_child a b old))) ∙ is);
    contents = λ a b e. either
        (λ old. kind_both b (forest.within a b (of_contents a b old)) ∙ forest.contents a b old)
        (λ new. contents_stand b new.1) (contents_both a b e);
  }

  pub template_kept : IsForest both
  template_kept = grown f both (nodes f) (λ b. b ≡ nodes f + 1) forest template_grown

  place_both : (place : Place) → IsPlace place f → IsPlace place both
  place_both (below p) held = let size = size_both in omega arith
  place_both (before s) stands = (stands.0, subst (IsIn s) (sym (children_both stands.0)) stands.1)

  template_free : (p : ℕ) → ¬ (IsParent both p (nodes f))
  template_free p e = either (λ old. let held = forest.within p (nodes f) old in absurd (omega arith))
      (λ new. let same = new.1 in absurd (omega arith)) (edge_both p (nodes f) e)

  template_is_child : ¬ (kind ≡ document) → ¬ (IsDocument (nodes f) both)
  template_is_child plain_kind is =
      let size = size_made kind f in
      let held : Holds (nodes f) (made kind f) = omega arith in
      plain_kind (sym (kind_new kind f) ∙ sym (kind_made (nodes f) document (made kind f) held) ∙ is)

  no_old_edge : (a b : ℕ) → nodes f ≤ a → ¬ (IsParent f a b)
  no_old_edge a b far e = let held = holds_parent a b f e in absurd (omega arith)

  -- a template is above what holds its contents alone
  contents_alone : (b : ℕ) → Above (IsParent both) (nodes f) b → b ≡ nodes f + 1
  contents_alone b (child _ _ e) =
      either (λ old. absurd (no_old_edge (nodes f) b (omega arith) old)) (λ new. new.1) (edge_both (nodes f) b e)
  contents_alone b (further _ c _ up e) =
      let at = contents_alone c up in
      either (λ old. absurd (no_old_edge c b (omega arith) old)) (λ new. new.1) (edge_both c b e)

  template_apart : (n : ℕ) → Holds n f → ¬ (AtOrAbove (IsParent both) (nodes f) n)
  template_apart n held (inl e) = absurd (omega arith)
  template_apart n held (inr up) = let at = contents_alone n up in absurd (omega arith)

  pub template_put : (place : Place) → IsPlace place f → ¬ (kind ≡ document) → CanPut place (node (nodes f)) both
  template_put place there plain_kind = (
    place_both place there,
    record {
      within = let size = size_both in omega arith;
      free = template_free;
      no_document = template_is_child plain_kind;
      apart = template_apart (is_from place) (place_held f forest place there);
    },
  )

pub element_kept : (name : QualName) (attributes : List Attribute) (is_template point : Bool) (f : Forest) →
    IsForest f → IsForest (made_element name attributes is_template point f)
element_kept name attributes true point f forest = template_kept _ f forest refl
element_kept name attributes false point f forest = leaf_kept _ f forest refl

-- a node that is made and put at once
module _ (kind : Kind) (f : Forest) (forest : IsForest f) (plain : (element_of kind).contents ≡ None) where
  place_made : (place : Place) → IsPlace place f → IsPlace place (made kind f)
  place_made (below p) held = let size = size_made kind f in omega arith
  place_made (before s) stands = (stands.0, subst (IsIn s) (sym (children_made stands.0 kind f)) stands.1)

  new_apart : (n : ℕ) → Holds n f → ¬ (AtOrAbove (IsParent (made kind f)) (nodes f) n)
  new_apart n held (inl e) = absurd (omega arith)
  new_apart n held (inr up) =
      let edge = first_edge (IsParent (made kind f)) (nodes f) n up in
      let there = holds_parent (nodes f) edge.0 f (edge_made kind f plain (nodes f) edge.0 edge.1) in
      absurd (omega arith)

  new_free : (p : ℕ) → ¬ (IsParent (made kind f) p (nodes f))
  new_free p e = let held = forest.within p (nodes f) (edge_made kind f plain p (nodes f) e) in absurd (omega arith)

  pub leaf_put : (place : Place) → IsPlace place f → ¬ (kind ≡ document) →
      CanPut place (node (nodes f)) (made kind f)
  leaf_put place there plain_kind = (
    place_made place there,
    record {
      within = let size = size_made kind f in omega arith;
      free = new_free;
      no_document = λ is. plain_kind (sym (kind_new kind f) ∙ is);
      apart = new_apart (is_from place) (place_held f forest place there);
    },
  )

  pub new_kept : (place : Place) → IsPlace place f → ¬ (kind ≡ document) →
      IsForest (put_node place (nodes f) (made kind f))
  new_kept place there plain_kind =
      let can = leaf_put place there plain_kind in
      put_node_kept place (nodes f) (made kind f) (leaf_kept kind f forest plain) can.0 can.1

pub element_put : (place : Place) (name : QualName) (attributes : List Attribute) (is_template point : Bool)
    (f : Forest) → IsForest f → IsPlace place f →
    CanPut place (node (nodes f)) (made_element name attributes is_template point f)
element_put place name attributes true point f forest there =
    template_put _ f forest refl place there (λ e. absurd (cc))
element_put place name attributes false point f forest there =
    leaf_put _ f forest refl place there (λ e. absurd (cc))

pub doctype_kept : (name public_id system_id : List ℕ) (f : Forest) → IsForest f →
    IsForest (with_doctype name public_id system_id f)
doctype_kept name public_id system_id f forest =
    new_kept (doctype name public_id system_id) f forest refl (below 0) forest.page.0 (λ e. absurd (cc))

-- characters
option_cases : {A : Type 0} (o : Option A) → (o ≡ None) ⊎ ((a : A) × (o ≡ Some a))
option_cases None = inl refl
option_cases (Some a) = inr (a, refl)

text_kept : (place : Place) (cs : List ℕ) (f : Forest) → IsForest f → IsPlace place f →
    IsForest (put_node place (nodes f) (made (text cs) f))
text_kept place cs f forest there = new_kept (text cs) f forest refl place there (λ e. absurd (cc))

add_kept : (place : Place) (c : ℕ) (cs : List ℕ) (n : ℕ) (f : Forest) → IsForest f → IsPlace place f →
    neighbour place f ≡ Some n →
    IsForest (put_words place (c ∷ cs) f)
add_kept place c cs n f forest there e = either
    (λ none. rw e (rw none (text_kept place (c ∷ cs) f forest there)))
    (λ some. rw e (rw some.1 (said_kept n (c ∷ cs) f forest)))
    (option_cases (text_of (kind_at n f)))

words_kept : (place : Place) (cs : List ℕ) (f : Forest) → IsForest f → IsPlace place f → IsForest (put_words place cs f)
words_kept place [] f forest there = forest
words_kept place (c ∷ cs) f forest there = either
    (λ none. rw none (text_kept place (c ∷ cs) f forest there))
    (λ some. add_kept place c cs some.0 f forest there some.1)
    (option_cases (neighbour place f))

pub put_kept : (place : Place) (put_child : Child) (f : Forest) → IsForest f → CanPut place put_child f →
    IsForest (put place put_child f)
put_kept place (node n) f forest can = put_node_kept place n f forest can.0 can.1
put_kept place (words cs) f forest can = words_kept place cs f forest can
