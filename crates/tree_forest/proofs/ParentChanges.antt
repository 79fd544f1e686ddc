-- The parent of a node is the one that has it as a child, and what happens at a child happens there alone.
use Rattle.std.proofs.Common.{◌≡◌, ◌+◌, if◌then◌else◌, ◌⊎◌, [], ◌∷◌, ◌∙◌, Bool, List, None, Option, Some, add-zero, ap}
use Rattle.std.proofs.Common.{ap₂, arith, false, inl, inr, map, refl, subst, suc, sym, true, zero, ℕ}
use Rattle.tree_forest.specs.Changes.{changed, detached, without_child}
use Rattle.tree_forest.specs.Forest.{Forest, Node, children_at, is_in, node_at, parent_from, parent_of}
use Rattle.tree_forest.specs.Orders.{IsForest, IsIn, of_child}
use Rattle.tree_forest.specs.Places.{before, in_front, put_node}
use Rattle.tree_forest.proofs.LawLists.{decide_in, is_in_false, is_in_true, left_out_none, put_before_none}
use Rattle.tree_forest.proofs.Nodes.{node_of, same_some}

-- a change of all nodes that changes none, or one alone
mapped_same : (g : Node → Node) (f : Forest) → ((q : ℕ) → g (node_at q f) ≡ node_at q f) → map g f ≡ f
mapped_same g [] h = refl
mapped_same g (x ∷ f) h = ap₂ (λ y t. y ∷ t) (h zero) (mapped_same g f (λ q. h (suc q)))

mapped_changed : (g : Node → Node) (p : ℕ) (f : Forest) → ((q : ℕ) → ¬ (q ≡ p) → g (node_at q f) ≡ node_at q f)
    → map g f ≡ changed p g f
mapped_changed g p [] h = refl
mapped_changed g zero (x ∷ f) h =
    ap (λ t. g x ∷ t) (mapped_same g f (λ q. h (suc q) (λ e. let same : suc q ≡ zero = e in omega arith)))
mapped_changed g (suc p) (x ∷ f) h = ap₂ (λ y t. y ∷ t)
    (h zero (λ e. let same : zero ≡ suc p = e in omega arith))
    (mapped_changed g p f (λ q off. h (suc q) (λ e. off (let same : suc q ≡ suc p = e in omega arith))))

-- a child stands in its parent alone
no_child_else : (s p q : ℕ) (f : Forest) → IsForest f → IsIn s (children_at p f) → ¬ (q ≡ p)
    → ¬ (IsIn s (children_at q f))
no_child_else s p q f forest here off there = off (forest.single q p s (of_child q s there) (of_child p s here))

pub before_alone : (s n p : ℕ) (f : Forest) → IsForest f → IsIn s (children_at p f)
    → put_node (before s) n f ≡ changed p (in_front s n) f
before_alone s n p f forest here = mapped_changed (in_front s n) p f (λ q off.
    ap (node_of (node_at q f).kind)
    (put_before_none s n (children_at q f) (no_child_else s p q f forest here off)))

pub out_alone : (n p : ℕ) (f : Forest) → IsForest f → IsIn n (children_at p f)
    → detached n f ≡ changed p (without_child n) f
out_alone n p f forest here = mapped_changed (without_child n) p f (λ q off.
    ap (node_of (node_at q f).kind)
    (left_out_none n (children_at q f) (no_child_else n p q f forest here off)))

-- a node that stands nowhere
none_further : (b : Bool) (at : ℕ) (found : Option ℕ) → (if b then Some at else found) ≡ None → found ≡ None
none_further true at found e = absurd (cc)
none_further false at found e = e

no_child : (n at q : ℕ) (f : Forest) → parent_from n at f ≡ None → ¬ (IsIn n (children_at q f))
no_child n at q [] e i = i
no_child n at zero (x ∷ f) e i =
    let same : Some at ≡ None =
    sym (ap (λ b. if b then Some at else parent_from n (suc at) f) (is_in_true n x.children i)) ∙ e in cc
no_child n at (suc q) (x ∷ f) e i =
    no_child n (suc at) q f (none_further (is_in n x.children) at (parent_from n (suc at) f) e) i

pub nowhere_out : (n : ℕ) (f : Forest) → parent_of n f ≡ None → detached n f ≡ f
nowhere_out n f e = mapped_same (without_child n) f (λ q.
    ap (node_of (node_at q f).kind) (left_out_none n (children_at q f) (no_child n 0 q f e)))

-- a parent that is found has the node as a child
pub record FoundParent (n at p : ℕ) (f : Forest) : Type 0 where
  pub steps : ℕ
  pub sum : p ≡ steps + at
  pub holds : IsIn n (children_at steps f)

is_found : (n : ℕ) (ms : List ℕ) → is_in n ms ≡ true → IsIn n ms
is_found n ms e = by (decide_in n ms) where
  by : IsIn n ms ⊎ ¬ (IsIn n ms) → IsIn n ms
  by (inl i) = i
  by (inr out) = let no_one : is_in n ms ≡ false = is_in_false n ms out in absurd (cc)

one_further : (n at p : ℕ) (x : Node) (f : Forest) → FoundParent n (suc at) p f → FoundParent n at p (x ∷ f)
one_further n at p x f found = record {
  steps = suc found.steps;
  sum = let sum = found.sum in omega arith;
  holds = found.holds;
}

found_by : (b : Bool) (n at p : ℕ) (x : Node) (f : Forest) → is_in n x.children ≡ b
    → (if b then Some at else parent_from n (suc at) f) ≡ Some p
    → (parent_from n (suc at) f ≡ Some p → FoundParent n (suc at) p f) → FoundParent n at p (x ∷ f)
found_by true n at p x f is e more =
    record { steps = zero; sum = let same : at ≡ p = same_some at p e in omega arith; holds = is_found n x.children is }
found_by false n at p x f is e more = one_further n at p x f (more e)

found_from : (n at p : ℕ) (f : Forest) → parent_from n at f ≡ Some p → FoundParent n at p f
found_from n at p [] e = absurd (cc)
found_from n at p (x ∷ f) e =
    found_by (is_in n x.children) n at p x f refl e (λ more. found_from n (suc at) p f more)

pub child_of_parent : (n p : ℕ) (f : Forest) → parent_of n f ≡ Some p → IsIn n (children_at p f)
child_of_parent n p f e =
    let found = found_from n 0 p f e in
    subst (λ q. IsIn n (children_at q f)) (sym (found.sum ∙ add-zero found.steps)) found.holds
