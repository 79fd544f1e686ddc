use Rattle.tree_forest.specs.Conditions.{IsPlace}
use Rattle.tree_forest.specs.Orders.{IsForest}
use Rattle.tree_forest.specs.Places.{before}
use Rattle.test_trees.proofs.crowds.put_remarks.Given as goal

abbrev pub invariant-remarks : goal.invariant-remarks
invariant-remarks g l =
    IsForest (g.S.TreeSink.view.forest l.sink) × IsPlace (before (g.S.TreeSink.view.number l.last))
    (g.S.TreeSink.view.forest l.sink)
