-- What stands at a place, and what stays, when a node is put or taken out.
use Rattle.std.proofs.Common.{◌≡◌, ℕ, ◌⊎◌, inl, inr, List, [], ◌∷◌, ◌++◌, Some, refl, sym, ap, ◌∙◌, subst}
use Rattle.std.proofs.lemmas.Bool.{cases_eq}
use Rattle.tree_forest.specs.Changes.{changed, childless, detached, left_out, reparented, with_more, without_child}
use Rattle.tree_forest.specs.Conditions.{CanPut}
use Rattle.tree_forest.specs.Forest.{Forest, Holds, children_at, kind_at}
use Rattle.tree_forest.specs.Orders.{AreDistinct, IsForest, IsIn, of_child}
use Rattle.tree_forest.specs.Places.{Place, before, trailing, below, in_front, node, parent_at, put_before, put_node}
use Rattle.tree_forest.proofs.LawLists.{left_out_at, left_out_none, not_in_front, put_before_at, put_before_none}
use Rattle.tree_forest.proofs.LawNodes.{changed_here, changed_other, parent_is}
use Rattle.tree_forest.proofs.Nodes.{kept, mapped_at}
use Rattle.tree_forest.proofs.Numbers.{in_left_out, in_put_before}

-- the children of nodes after a node is put
pub put_below : (p n : ℕ) (f : Forest) → Holds p f → children_at p (put_node (below p) n f) ≡ children_at p f ++ n ∷ []
put_below p n f h = ap (λ x. x.children) (changed_here (trailing n) p f h)

pub put_in_front : (s n p : ℕ) (f : Forest) → children_at p (put_node (before s) n f) ≡ put_before s n (children_at p f)
put_in_front s n p f = ap (λ x. x.children) (mapped_at p (in_front s n) f refl)

pub put_right_before : (s n p : ℕ) (front rest : List ℕ) (f : Forest) → IsForest f
    → children_at p f ≡ front ++ s ∷ rest → children_at p (put_node (before s) n f) ≡ front ++ n ∷ s ∷ rest
put_right_before s n p front rest f forest e = put_in_front s n p f ∙ ap (put_before s n) e
    ∙ put_before_at s n front rest (not_in_front s front rest (subst AreDistinct e (forest.once p)))

pub put_there : (place : Place) (n q : ℕ) (f : Forest) → IsForest f → CanPut place (node n) f
    → IsIn n (children_at q (put_node place n f)) → parent_at place f ≡ Some q
put_there (below p) n q f forest can h = by (cases_eq q p) where
  by : (q ≡ p) ⊎ (q ≡ p → ⊥) → Some p ≡ Some q
  by (inl e) = ap Some (sym e)
  by (inr off) = absurd (can.1.free q (of_child q n
      (subst (IsIn n) (ap (λ x. x.children) (changed_other (trailing n) p q f off)) h)))
put_there (before s) n q f forest can h =
    by (in_put_before n s n (children_at q f) (subst (IsIn n) (put_in_front s n q f) h)) where
      by : IsIn n (children_at q f) ⊎ ((n ≡ n) × IsIn s (children_at q f)) → parent_at (before s) f ≡ Some q
      by (inl i) = absurd (can.1.free q (of_child q n i))
      by (inr i) = parent_is s q f forest i.1

-- what a node that is put leaves
pub put_kinds : (place : Place) (n m : ℕ) (f : Forest) → kind_at m (put_node place n f) ≡ kind_at m f
put_kinds (below p) n m f = kept (λ x. x.kind) (trailing n) p m f (λ x. refl)
put_kinds (before s) n m f = ap (λ x. x.kind) (mapped_at m (in_front s n) f refl)

pub put_children : (place : Place) (n q : ℕ) (f : Forest) → IsForest f → ¬ (parent_at place f ≡ Some q)
    → children_at q (put_node place n f) ≡ children_at q f
put_children (below p) n q f forest h = ap (λ x. x.children) (changed_other (trailing n) p q f (λ e. h (ap Some (sym e))))
put_children (before s) n q f forest h = put_in_front s n q f
    ∙ put_before_none s n (children_at q f) (λ i. h (parent_is s q f forest i))

-- a node that is taken out
pub out_children : (n q : ℕ) (f : Forest) → children_at q (detached n f) ≡ left_out n (children_at q f)
out_children n q f = ap (λ x. x.children) (mapped_at q (without_child n) f refl)

pub out_kinds : (n m : ℕ) (f : Forest) → kind_at m (detached n f) ≡ kind_at m f
out_kinds n m f = ap (λ x. x.kind) (mapped_at m (without_child n) f refl)

pub out_nowhere : (n q : ℕ) (f : Forest) → ¬ (IsIn n (children_at q (detached n f)))
out_nowhere n q f h = (in_left_out n n (children_at q f) (subst (IsIn n) (out_children n q f) h)).1 refl

pub out_siblings : (n q : ℕ) (front rest : List ℕ) (f : Forest) → IsForest f → children_at q f ≡ front ++ n ∷ rest
    → children_at q (detached n f) ≡ front ++ rest
out_siblings n q front rest f forest e = out_children n q f ∙ ap (left_out n) e
    ∙ left_out_at n front rest (subst AreDistinct e (forest.once q))

pub out_others : (n q : ℕ) (f : Forest) → ¬ (IsIn n (children_at q f)) → children_at q (detached n f) ≡ children_at q f
out_others n q f h = out_children n q f ∙ left_out_none n (children_at q f) h

-- children that go to another node
pub reparented_kinds : (old new m : ℕ) (f : Forest) → kind_at m (reparented old new f) ≡ kind_at m f
reparented_kinds old new m f =
    kept (λ x. x.kind) (with_more (children_at old f)) new m (changed old childless f) (λ x. refl)
    ∙ kept (λ x. x.kind) childless old m f (λ x. refl)

pub reparented_children : (old new q : ℕ) (f : Forest) → ¬ (q ≡ old) → ¬ (q ≡ new)
    → children_at q (reparented old new f) ≡ children_at q f
reparented_children old new q f from to = ap (λ x. x.children)
    (changed_other (with_more (children_at old f)) new q (changed old childless f) to
    ∙ changed_other childless old q f from)
