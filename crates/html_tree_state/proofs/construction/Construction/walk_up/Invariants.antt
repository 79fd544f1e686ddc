use Rattle.tree_model.specs.Building.{seen}
use Rattle.html_tree_state.specs.Turns.{walk_of}
use Rattle.html_tree_state.proofs.WalkPlaces.{IsWalking}
use Rattle.html_tree_state.proofs.construction.Construction.walk_up.Given as goal

abbrev pub invariant-up : goal.invariant-up
invariant-up g l =
    let tree = g.S.TreeSink in
    IsWalking (tree.view.number l.element) (tree.view.number l.block)
    (seen tree.view l.initial.self.held l.initial.self.sink) l.start l.index
    (walk_of tree.view.number l.walk (seen tree.view l.self.held l.self.sink))

abbrev pub decreases-up : goal.decreases-up
decreases-up g l = l.index
