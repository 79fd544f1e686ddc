use Rattle.std.proofs.Common.{◌≡◌, length}
use Rattle.tree_model.specs.Building.{seen, stack_of}
use Rattle.tree_model.specs.OpenElements.{has_any}
use Rattle.tree_model.specs.Scopes.{is_open}
use Rattle.tree_names.specs.Wanted.{elements_of}
use Rattle.tree_model.proofs.Stacks.{AreElements}
use Rattle.html_tree_state.proofs.construction.Construction.has_open.Given as goal

abbrev pub invariant-loop-element : goal.invariant-loop-element
invariant-loop-element g l =
    let tree = g.S.TreeSink in
    let f = tree.view.forest l.self.sink in
    record {
      elements : AreElements f (stack_of tree.view.number l.open);
      same : is_open (elements_of l.wanted) (seen tree.view l.self.held l.self.sink)
          ≡ has_any (elements_of l.wanted) f (stack_of tree.view.number l.open);
    }

abbrev pub decreases-loop-element : goal.decreases-loop-element
decreases-loop-element g l = length l.open
