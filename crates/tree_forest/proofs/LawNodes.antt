-- The nodes of a forest after a change.
use Rattle.std.proofs.Common.{◌≡◌, ◌+◌, if◌then◌else◌, [], ◌∷◌, ◌∙◌, Some, add-zero, ap, arith, refl, suc, sym, zero}
use Rattle.std.proofs.Common.{zero-add, ℕ}
use Rattle.tree_forest.specs.Changes.{changed}
use Rattle.tree_forest.specs.Forest.{Forest, Holds, Node, children_at, node_at, parent_from, parent_of}
use Rattle.tree_forest.specs.Orders.{IsForest, IsIn, of_child}
use Rattle.tree_forest.proofs.LawLists.{is_in_false, is_in_true}

-- a node after a change of itself, and of another
pub changed_here : (g : Node → Node) (n : ℕ) (f : Forest) → Holds n f → node_at n (changed n g f) ≡ g (node_at n f)
changed_here g n [] h = absurd (omega arith)
changed_here g zero (x ∷ f) h = refl
changed_here g (suc n) (x ∷ f) h = changed_here g n f (omega arith)

pub changed_other : (g : Node → Node) (n m : ℕ) (f : Forest) → ¬ (m ≡ n) → node_at m (changed n g f) ≡ node_at m f
changed_other g n m [] h = refl
changed_other g zero zero (x ∷ f) h = absurd (h refl)
changed_other g zero (suc m) (x ∷ f) h = refl
changed_other g (suc n) zero (x ∷ f) h = refl
changed_other g (suc n) (suc m) (x ∷ f) h = changed_other g n m f (λ e. h (ap suc e))

-- the parent of a node that stands among the children of one node alone
pub only_parent : (s at q : ℕ) (f : Forest) → IsIn s (children_at q f)
    → ((p : ℕ) → IsIn s (children_at p f) → p ≡ q) → parent_from s at f ≡ Some (q + at)
only_parent s at q [] h only = absurd h
only_parent s at zero (x ∷ f) h only =
    ap (λ b. if b then Some at else parent_from s (suc at) f) (is_in_true s x.children h) ∙ ap Some (sym (zero-add at))
only_parent s at (suc q) (x ∷ f) h only =
    ap (λ b. if b then Some at else parent_from s (suc at) f)
    (is_in_false s x.children (λ i. let e : zero ≡ suc q = only zero i in omega arith))
    ∙ only_parent s (suc at) q f h (λ p i. let e : suc p ≡ suc q = only (suc p) i in omega arith)
    ∙ ap Some (let e : q + suc at ≡ suc q + at = omega arith in e)

pub parent_is : (s q : ℕ) (f : Forest) → IsForest f → IsIn s (children_at q f) → parent_of s f ≡ Some q
parent_is s q f forest h = only_parent s 0 q f h (λ p i. forest.single p q s (of_child p s i) (of_child q s h))
    ∙ ap Some (add-zero q)
