use Rattle.std.proofs.Common.{◌≡◌, length}
use Rattle.tree_model.specs.Adoption.{named_before_special}
use Rattle.tree_model.specs.Building.{seen, stack_of}
use Rattle.tree_model.proofs.Stacks.{AreElements}
use Rattle.html_tree_state.proofs.construction.Construction.element_before_special.Given as goal

abbrev pub invariant-loop-element : goal.invariant-loop-element
invariant-loop-element g l =
    let tree = g.S.TreeSink in
    let f = tree.view.forest l.self.sink in
    record {
      elements : AreElements f (stack_of tree.view.number l.open);
      same : named_before_special l.name f
          (seen tree.view l.self.held l.self.sink).stack
          ≡ named_before_special l.name f (stack_of tree.view.number l.open);
    }

abbrev pub decreases-loop-element : goal.decreases-loop-element
decreases-loop-element g l = length l.open
