-- Trees go one step on, and stand in order.
use Rattle.std.proofs.Common.{◌≡◌, ℕ, zero, suc, ◌+◌, ◌*◌, List, [], ◌∷◌, ◌++◌, refl, sym, ap, ◌∙◌, arith, inl, inr}
use Rattle.tree_forest.specs.Forest.{Forest, children_at, kind_at, nodes}
use Rattle.tree_forest.specs.Orders.{IsForest, IsIn, child, of_child}
use Rattle.tree_forest.specs.Trees.{Trees, each_before, followed_by, node, none, size, steps, tree_before, trees}
use Rattle.tree_forest.proofs.Depth.{GoesDown, childless_nowhere, enough}

same_each : (g h : ℕ → Trees → Trees) (ns : List ℕ) → ((c : ℕ) (rest : Trees) → IsIn c ns → g c rest ≡ h c rest)
    → each_before g ns ≡ each_before h ns
same_each g h [] same = refl
same_each g h (n ∷ ns) same =
    same n (each_before g ns) (inl refl)
    ∙ ap (h n) (same_each g h ns (λ c rest i. same c rest (inr i)))

abbrev before : Forest → ℕ → Trees → ℕ → Trees
before f k rest n = tree_before k f n rest

goes_down : (f : Forest) → GoesDown f (before f)
goes_down f = record {
  down = λ k rest n same. ap (λ kids. node (kind_at n f) kids rest)
      (same_each (tree_before k f) (tree_before (suc k) f) (children_at n f)
      (λ c others i. same others c (child n c (of_child n c i))));
  past = λ k rest n h.
      ap (λ ns. node (kind_at n f) (each_before (tree_before k f) ns) rest) (childless_nowhere n f h)
      ∙ sym (ap (λ ns. node (kind_at n f) (each_before (tree_before (suc k) f) ns) rest) (childless_nowhere n f h));
}

pub one_step_on : (f : Forest) (n : ℕ) (ns : List ℕ) → IsForest f
    → trees f (n ∷ ns) ≡ node (kind_at n f) (trees f (children_at n f)) (trees f ns)
one_step_on f n ns forest = enough f (before f) forest (goes_down f) (trees f ns) n

tree_then : (k : ℕ) (f : Forest) (n : ℕ) (rest others : Trees)
    → tree_before k f n (followed_by rest others) ≡ followed_by (tree_before k f n rest) others
tree_then zero f n rest others = refl
tree_then (suc k) f n rest others = refl

pub in_order : (f : Forest) (ms ns : List ℕ) → trees f (ms ++ ns) ≡ followed_by (trees f ms) (trees f ns)
in_order f [] ns = refl
in_order f (m ∷ ms) ns =
    ap (tree_before (nodes f) f m) (in_order f ms ns) ∙ tree_then (nodes f) f m (trees f ms) (trees f ns)

three_more : (a b c d : ℕ) → a ≡ 3 * c → b ≡ 3 * d → suc (suc (suc (a + b))) ≡ 3 * suc (c + d)
three_more a b c d p q = omega arith

pub three_steps : (ts : Trees) → steps ts ≡ 3 * size ts
three_steps none = refl
three_steps (node kind kids rest) =
    three_more (steps kids) (steps rest) (size kids) (size rest) (three_steps kids) (three_steps rest)
