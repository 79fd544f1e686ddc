use Rattle.std.proofs.Common.{◌≡◌, ◌≤◌, drop, false, length}
use Rattle.tree_forest.specs.Forest.{is_in}
use Rattle.tree_model.specs.Building.{stack_of}
use Rattle.tree_model.proofs.held.position.Given as goal

-- the element is none of those after
abbrev pub invariant-back : goal.invariant-back
invariant-back g l = (l.at ≤ length l.elements)
    × (is_in (g.S.TreeSink.view.number l.target) (stack_of g.S.TreeSink.view.number (drop l.at l.elements)) ≡ false)

abbrev pub decreases-back : goal.decreases-back
decreases-back g l = l.at
