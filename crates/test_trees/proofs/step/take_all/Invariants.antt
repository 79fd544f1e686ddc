use Rattle.html_tree_state.specs.Building.{seen}
use Rattle.html_tree_state.specs.Sound.{Sound}
use Rattle.test_trees.proofs.step.take_all.Given as goal

abbrev pub invariant-steps : goal.invariant-steps
invariant-steps g l =
    let tree = g.S.TreeSink in
    Sound (seen tree.view l.tree.held l.tree.sink)
