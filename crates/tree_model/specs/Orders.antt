-- Of two open elements the one nearer to the current node is never above the other in the tree.
use Rattle.std.specs.Prelude.{ℕ, List, [], ◌∷◌}
use Rattle.tree_forest.specs.Forest.{Forest}
use Rattle.tree_forest.specs.Orders.{Above, IsIn, IsParent}

abbrev pub AreInOrder : Forest → List ℕ → Type 0
AreInOrder f [] = Unit {0}
AreInOrder f (n ∷ ns) = ((m : ℕ) → IsIn m ns → ¬ (Above (IsParent f) n m)) × AreInOrder f ns
