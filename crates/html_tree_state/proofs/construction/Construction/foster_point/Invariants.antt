use Rattle.std.proofs.Common.{◌≡◌, length}
use Rattle.tree_model.specs.Building.{seen, stack_of}
use Rattle.tree_model.specs.Insertions.{foster_place}
use Rattle.tree_model.proofs.Stacks.{AreOpen}
use Rattle.html_tree_state.proofs.construction.Construction.foster_point.Given as goal

abbrev pub invariant-loop-element : goal.invariant-loop-element
invariant-loop-element g l =
    let tree = g.S.TreeSink in
    let f = tree.view.forest l.self.sink in
    let all = (seen tree.view l.self.held l.self.sink).stack in
    record {
      elements : AreOpen f (stack_of tree.view.number l.open);
      same : foster_place f (stack_of tree.view.number l.open) ≡ foster_place f all;
    }

abbrev pub decreases-loop-element : goal.decreases-loop-element
decreases-loop-element g l = length l.open
