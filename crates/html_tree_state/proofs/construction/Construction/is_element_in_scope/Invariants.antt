use Rattle.std.proofs.Common.{◌≡◌, length}
use Rattle.tree_forest.specs.Forest.{is_in}
use Rattle.tree_names.specs.ElementSets.{scope_barriers}
use Rattle.tree_model.specs.Building.{seen, stack_of}
use Rattle.tree_model.specs.OpenElements.{up_to}
use Rattle.tree_model.proofs.Stacks.{AreElements}
use Rattle.html_tree_state.proofs.construction.Construction.is_element_in_scope.Given as goal

abbrev pub invariant-loop-node : goal.invariant-loop-node
invariant-loop-node g l =
    let tree = g.S.TreeSink in
    let n = tree.view.number l.element in
    let f = tree.view.forest l.self.sink in
    record {
      elements : AreElements f (stack_of tree.view.number l.open);
      same : is_in n (up_to scope_barriers f
          (seen tree.view l.self.held l.self.sink).stack)
          ≡ is_in n (up_to scope_barriers f (stack_of tree.view.number l.open));
    }

abbrev pub decreases-loop-node : goal.decreases-loop-node
decreases-loop-node g l = length l.open
