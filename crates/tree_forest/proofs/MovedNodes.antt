-- Nodes that are put, taken out or moved, and nodes whose words or attributes grow, leave a forest.
use Rattle.std.proofs.Common.{◌≡◌, ℕ, ◌⊎◌, inl, inr, refl, sym, ap, subst, ◌∙◌, List, [], ◌∷◌}
use Rattle.html_lexemes.specs.declared.names.Attribute.{Attribute}
use Rattle.tree_forest.specs.Changes.{changed, detached, kind_with, saying, saying_kind, with_attributes, without_child}
use Rattle.tree_forest.specs.Conditions.{CanMove, IsPlace}
use Rattle.tree_forest.specs.Forest.{Forest, children_at, contents_of, document, element_of, kind_at, node_at}
use Rattle.tree_forest.specs.Orders.{AreDistinct, AtOrAbove, HasNoParent, IsDocument, IsForest, IsIn, IsParent}
use Rattle.tree_forest.specs.Orders.{of_child, of_contents}
use Rattle.tree_forest.specs.Places.{Place, before, trailing, below, in_front, put_node}
use Rattle.tree_forest.proofs.KeptForests.{IsMoved, moved, none_added, one_added}
use Rattle.tree_forest.proofs.Nodes.{attributed, changed_has, contents_said, contents_with, document_said}
use Rattle.tree_forest.proofs.Nodes.{document_with, mapped_at, size_changed, size_mapped}
use Rattle.tree_forest.proofs.Numbers.{distinct_append, distinct_left_out, distinct_one, distinct_put_before, in_append}
use Rattle.tree_forest.proofs.Numbers.{in_left_out, in_one, in_put_before}
use Rattle.tree_forest.proofs.Relations.{at_or_above_in, either, with_edge}

-- below a node
pub below_moved : (p n : ℕ) (f : Forest) → IsForest f → HasNoParent n f →
    IsMoved f (changed p (trailing n) f) p (λ b. b ≡ n)
below_moved p n f forest free = record {
  size = size_changed p (trailing n) f;
  contents = λ a. changed_has (λ x. (element_of x.kind).contents ≡ contents_of a f) a p (trailing n) f refl (λ _. refl);
  documents = λ a. changed_has (λ x. x.kind ≡ document → IsDocument a f) a p (trailing n) f (λ is. is) (λ _ is. is);
  kept = λ a is. changed_has (λ x. x.kind ≡ document) a p (trailing n) f is (λ _. is);
  children = λ a b. changed_has
      (λ x. IsIn b x.children → IsIn b (children_at a f) ⊎ ((a ≡ p) × (b ≡ n))) a p (trailing n) f
      (λ i. inl i)
      (λ e i. either (λ old. inl old) (λ new. inr (e, in_one b n new)) (in_append b (children_at a f) (n ∷ []) i));
  once = λ a. changed_has (λ x. AreDistinct x.children) a p (trailing n) f (forest.once a)
      (λ e. distinct_append (children_at a f) (n ∷ []) (forest.once a) (distinct_one n)
      (λ c i is. free a (of_child a n (subst (λ x. IsIn x (children_at a f)) (in_one c n is) i))));
}

pub below_kept : (p n : ℕ) (f : Forest) → IsForest f → CanMove (below p) n f → IsForest (put_node (below p) n f)
below_kept p n f forest can =
    let change = below_moved p n f forest can.free in
    moved f (changed p (trailing n) f) p (λ b. b ≡ n) forest change
    (one_added f (changed p (trailing n) f) p n change can.within can.free can.no_document can.apart)

-- before a node
pub front_moved : (p s n : ℕ) (f : Forest) → IsForest f → IsIn s (children_at p f) → HasNoParent n f →
    IsMoved f (put_node (before s) n f) p (λ b. b ≡ n)
front_moved p s n f forest stands free = record {
  size = size_mapped (in_front s n) f;
  contents = λ a. ap (λ x. (element_of x.kind).contents) (mapped_at a (in_front s n) f refl);
  documents = λ a is. sym (ap (λ x. x.kind) (mapped_at a (in_front s n) f refl)) ∙ is;
  kept = λ a is. ap (λ x. x.kind) (mapped_at a (in_front s n) f refl) ∙ is;
  children = λ a b i. either (λ old. inl old)
      (λ new. inr (forest.single a p s (of_child a s new.1) (of_child p s stands), new.0))
      (in_put_before b s n (children_at a f) (subst (λ x. IsIn b x.children) (mapped_at a (in_front s n) f refl) i));
  once = λ a. subst (λ x. AreDistinct x.children) (sym (mapped_at a (in_front s n) f refl))
      (distinct_put_before s n (children_at a f) (λ i. free a (of_child a n i)) (forest.once a));
}

pub front_kept : (p s n : ℕ) (f : Forest) → IsForest f → IsIn s (children_at p f) → CanMove (before s) n f →
    IsForest (put_node (before s) n f)
front_kept p s n f forest stands can =
    let change = front_moved p s n f forest stands can.free in
    moved f (put_node (before s) n f) p (λ b. b ≡ n) forest change
    (one_added f (put_node (before s) n f) p n change can.within can.free can.no_document
    (λ up. can.apart (with_edge (IsParent f) n p s up (of_child p s stands))))

pub put_node_kept : (place : Place) (n : ℕ) (f : Forest) → IsForest f → IsPlace place f → CanMove place n f →
    IsForest (put_node place n f)
put_node_kept (below p) n f forest place can = below_kept p n f forest can
put_node_kept (before s) n f forest place can = front_kept place.0 s n f forest place.1 can

-- words more of a text
pub said_kept : (n : ℕ) (cs : List ℕ) (f : Forest) → IsForest f → IsForest (changed n (saying cs) f)
said_kept n cs f forest = moved f (changed n (saying cs) f) 0 (λ _. ⊥) forest (record {
  size = size_changed n (saying cs) f;
  contents = λ a. changed_has (λ x. (element_of x.kind).contents ≡ contents_of a f) a n (saying cs) f refl
      (λ _. contents_said cs (kind_at a f));
  documents = λ a. changed_has (λ x. x.kind ≡ document → IsDocument a f) a n (saying cs) f (λ is. is)
      (λ _. document_said cs (kind_at a f));
  kept = λ a is. changed_has (λ x. x.kind ≡ document) a n (saying cs) f is (λ _. ap (saying_kind cs) is);
  children = λ a b. changed_has (λ x. IsIn b x.children → IsIn b (children_at a f) ⊎ ((a ≡ 0) × ⊥)) a n (saying cs) f
      (λ i. inl i) (λ _ i. inl i);
  once = λ a. changed_has (λ x. AreDistinct x.children) a n (saying cs) f (forest.once a) (λ _. forest.once a);
}) (none_added f (changed n (saying cs) f))

pub attributes_kept : (n : ℕ) (more : List Attribute) (f : Forest) → IsForest f → IsForest (with_attributes n more f)
attributes_kept n more f forest = moved f (with_attributes n more f) 0 (λ _. ⊥) forest (record {
  size = size_changed n (attributed more) f;
  contents = λ a. changed_has (λ x. (element_of x.kind).contents ≡ contents_of a f) a n (attributed more) f refl
      (λ _. contents_with more (kind_at a f));
  documents = λ a. changed_has (λ x. x.kind ≡ document → IsDocument a f) a n (attributed more) f (λ is. is)
      (λ _. document_with more (kind_at a f));
  kept = λ a is. changed_has (λ x. x.kind ≡ document) a n (attributed more) f is (λ _. ap (kind_with more) is);
  children = λ a b. changed_has
      (λ x. IsIn b x.children → IsIn b (children_at a f) ⊎ ((a ≡ 0) × ⊥)) a n (attributed more) f
      (λ i. inl i) (λ _ i. inl i);
  once = λ a. changed_has (λ x. AreDistinct x.children) a n (attributed more) f (forest.once a) (λ _. forest.once a);
}) (none_added f (with_attributes n more f))

-- a node that is taken out
out_at : (a n : ℕ) (f : Forest) → node_at a (detached n f) ≡ without_child n (node_at a f)
out_at a n f = mapped_at a (without_child n) f refl

pub child_before : (a b n : ℕ) (f : Forest) → IsIn b (children_at a (detached n f)) →
    IsIn b (children_at a f) × ¬ (b ≡ n)
child_before a b n f i = in_left_out b n (children_at a f) (subst (λ x. IsIn b x.children) (out_at a n f) i)

pub contents_before : (a n : ℕ) (f : Forest) → contents_of a (detached n f) ≡ contents_of a f
contents_before a n f = ap (λ x. (element_of x.kind).contents) (out_at a n f)

pub detached_kept : (n : ℕ) (f : Forest) → IsForest f → IsForest (detached n f)
detached_kept n f forest = moved f (detached n f) 0 (λ _. ⊥) forest (record {
  size = size_mapped (without_child n) f;
  contents = λ a. contents_before a n f;
  documents = λ a is. sym (ap (λ x. x.kind) (out_at a n f)) ∙ is;
  kept = λ a is. ap (λ x. x.kind) (out_at a n f) ∙ is;
  children = λ a b i. inl (child_before a b n f i).0;
  once = λ a. subst (λ x. AreDistinct x.children) (sym (out_at a n f))
      (distinct_left_out n (children_at a f) (forest.once a));
}) (none_added f (detached n f))

pub edge_before : (n a b : ℕ) (f : Forest) → IsParent (detached n f) a b → IsParent f a b
edge_before n a b f (of_child _ _ i) = of_child a b (child_before a b n f i).0
edge_before n a b f (of_contents _ _ e) = of_contents a b (sym (contents_before a n f) ∙ e)

pub above_before : (n a b : ℕ) (f : Forest) → AtOrAbove (IsParent (detached n f)) a b → AtOrAbove (IsParent f) a b
above_before n a b f up = at_or_above_in (IsParent (detached n f)) (IsParent f) (λ c d. edge_before n c d f) a b up

pub detached_free : (n : ℕ) (f : Forest) → IsForest f → ¬ (IsDocument n f) → HasNoParent n (detached n f)
detached_free n f forest plain p (of_child _ _ i) = (child_before p n n f i).1 refl
detached_free n f forest plain p (of_contents _ _ e) = plain (forest.contents p n (sym (contents_before p n f) ∙ e))
