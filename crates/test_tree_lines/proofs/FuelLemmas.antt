-- The lines of a node go one step on, since a forest is no deeper than it has nodes.
use Rattle.std.proofs.Common.{◌≡◌, ◌+◌, ◌≤◌, [], ◌∷◌, ◌++◌, ◌∙◌, List, None, Option, Some, ap, ap₂, inl, inr, refl, suc}
use Rattle.std.proofs.Common.{sym, ℕ}
use Rattle.tree_forest.specs.Forest.{Forest, children_at, contents_of, element_of, kind_at, nodes}
use Rattle.tree_forest.specs.Orders.{Above, IsForest, IsIn, IsParent, child, further, of_child, of_contents}
use Rattle.tree_forest.proofs.Depth.{GoesDown, childless_nowhere, enough, kind_nowhere}
use Rattle.test_tree_lines.specs.TreeLines.{held_by, joined, lines_within, node_lines, row_lines}

-- what a template's contents hold is below it
held_below : (f : Forest) (n c : ℕ) (o : Option ℕ) → contents_of n f ≡ o → IsIn c (held_by o f)
    → Above (IsParent f) n c
held_below f n c None e i = absurd i
held_below f n c (Some m) e i = further n m c (child n m (of_contents n m e)) (of_child m c i)

-- a node that isn't there holds nothing
held_nowhere : (f : Forest) (n : ℕ) → nodes f ≤ n → held_by (contents_of n f) f ≡ []
held_nowhere f n h = ap (λ k. held_by (element_of k).contents f) (kind_nowhere n f h)

joined_same : (g h : ℕ → List ℕ) (ns : List ℕ) → ((c : ℕ) → IsIn c ns → g c ≡ h c) → joined g ns ≡ joined h ns
joined_same g h [] same = refl
joined_same g h (n ∷ ns) same =
    ap (λ l. l ++ joined g ns) (same n (inl refl))
    ∙ ap (λ l. h n ++ l) (joined_same g h ns (λ c i. same c (inr i)))

-- where nothing is below a node, its lines are its own
alone : (f : Forest) (k level n : ℕ) → nodes f ≤ n
    → lines_within (suc k) f level n ≡ node_lines level (kind_at n f)
    ++ (joined (lines_within k f (level + 2)) [] ++ joined (lines_within k f (level + 1)) [])
alone f k level n h = ap₂ (λ a b. node_lines level (kind_at n f)
    ++ (joined (lines_within k f (level + 2)) a ++ joined (lines_within k f (level + 1)) b))
    (held_nowhere f n h) (childless_nowhere n f h)

goes_down : (f : Forest) → GoesDown f (λ k. lines_within k f)
goes_down f = record {
  down = λ k level n same. ap₂ (λ a b. node_lines level (kind_at n f) ++ (a ++ b))
      (joined_same (lines_within k f (level + 2)) (lines_within (suc k) f (level + 2)) (held_by (contents_of n f) f)
      (λ c i. same (level + 2) c (held_below f n c (contents_of n f) refl i)))
      (joined_same (lines_within k f (level + 1)) (lines_within (suc k) f (level + 1)) (children_at n f)
      (λ c i. same (level + 1) c (child n c (of_child n c i))));
  past = λ k level n h. alone f k level n h ∙ sym (alone f (suc k) level n h);
}

pub one_step_on : (f : Forest) (level n : ℕ) → IsForest f → lines_within (nodes f) f level n
    ≡ node_lines level (kind_at n f) ++ (row_lines f (level + 2) (held_by (contents_of n f) f)
    ++ row_lines f (level + 1) (children_at n f))
one_step_on f level n forest = enough f (λ k. lines_within k f) forest (goes_down f) level n
