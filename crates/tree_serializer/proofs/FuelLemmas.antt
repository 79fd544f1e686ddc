-- A walk of a forest goes one step on, since a forest is no deeper than it has nodes.
use Rattle.std.proofs.Common.{◌≡◌, ℕ, suc, ◌≤◌, List, [], ◌∷◌, ◌++◌, Option, None, Some, refl, sym, ap, ◌∙◌, inl, inr}
use Rattle.tree_forest.specs.Forest.{Forest, children_at, contents_of, element_of, kind_at, nodes}
use Rattle.tree_forest.specs.Orders.{Above, IsForest, IsIn, IsParent, child, further, of_child, of_contents}
use Rattle.tree_forest.proofs.Depth.{GoesDown, childless_nowhere, enough, kind_nowhere}
use Rattle.tree_serializer.specs.Calls.{Call}
use Rattle.tree_serializer.specs.Walks.{calls_by, calls_within, contents_or, inner_of, joined}

-- what stands in a node is below it
inner_by : (f : Forest) (n c : ℕ) (o : Option ℕ) → contents_of n f ≡ o → IsIn c (children_at (contents_or o n) f)
    → Above (IsParent f) n c
inner_by f n c None e i = child n c (of_child n c i)
inner_by f n c (Some m) e i = further n m c (child n m (of_contents n m e)) (of_child m c i)

-- in a node that isn't there nothing stands
empty_nowhere : (f : Forest) (n : ℕ) → nodes f ≤ n → inner_of n f ≡ []
empty_nowhere f n h =
    ap (λ k. children_at (contents_or (element_of k).contents n) f) (kind_nowhere n f h) ∙ childless_nowhere n f h

joined_same : {A : Type 0} (g h : ℕ → List A) (ns : List ℕ) → ((c : ℕ) → IsIn c ns → g c ≡ h c)
    → joined g ns ≡ joined h ns
joined_same g h [] same = refl
joined_same g h (n ∷ ns) same =
    ap (λ l. l ++ joined g ns) (same n (inl refl))
    ∙ ap (λ l. h n ++ l) (joined_same g h ns (λ c i. same c (inr i)))

-- a walk takes nothing along
abbrev calls : Forest → ℕ → Unit {0} → ℕ → List Call
calls f k nothing n = calls_within k f n

goes_down : (f : Forest) → GoesDown f (calls f)
goes_down f = record {
  down = λ k nothing n same. ap (calls_by (kind_at n f))
      (joined_same (calls_within k f) (calls_within (suc k) f) (inner_of n f)
      (λ c i. same tt c (inner_by f n c (contents_of n f) refl i)));
  past = λ k nothing n h.
      ap (λ ns. calls_by (kind_at n f) (joined (calls_within k f) ns)) (empty_nowhere f n h)
      ∙ sym (ap (λ ns. calls_by (kind_at n f) (joined (calls_within (suc k) f) ns)) (empty_nowhere f n h));
}

pub one_step_on : (f : Forest) (n : ℕ) → IsForest f
    → calls_within (nodes f) f n ≡ calls_by (kind_at n f) (joined (calls_within (nodes f) f) (inner_of n f))
one_step_on f n forest = enough f (calls f) forest (goes_down f) tt n
