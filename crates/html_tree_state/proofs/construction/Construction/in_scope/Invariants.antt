use Rattle.std.proofs.Common.{◌≡◌, length}
use Rattle.tree_model.specs.Building.{seen, stack_of}
use Rattle.tree_model.specs.OpenElements.{has_any, up_to}
use Rattle.tree_model.specs.Scopes.{is_in_scope}
use Rattle.tree_names.specs.Wanted.{barriers_of, elements_of}
use Rattle.tree_model.proofs.Stacks.{AreElements}
use Rattle.html_tree_state.proofs.construction.Construction.in_scope.Given as goal

abbrev pub invariant-loop-element : goal.invariant-loop-element
invariant-loop-element g l =
    let number = g.S.TreeSink.view.number in
    let f = g.S.TreeSink.view.forest l.self.sink in
    record {
      elements : AreElements f (stack_of number l.open);
      same : is_in_scope (barriers_of l.scope) (elements_of l.wanted)
          (seen g.S.TreeSink.view l.self.held l.self.sink)
          ≡ has_any (elements_of l.wanted) f (up_to (barriers_of l.scope) f (stack_of number l.open));
    }

abbrev pub decreases-loop-element : goal.decreases-loop-element
decreases-loop-element g l = length l.open
