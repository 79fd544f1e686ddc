use Rattle.std.proofs.Common.{◌≡◌, length}
use Rattle.html_tree_state.specs.Building.{stack_of}
use Rattle.tree_model.proofs.Stacks.{AreElements}
use Rattle.html_tree_builder.proofs.sink.emit_popped.Given as goal

abbrev pub invariant-elements : goal.invariant-elements
invariant-elements g l =
    let tree = g.S.TreeSink in
    record {
      elements : AreElements (tree.view.forest l.sink) (stack_of tree.view.number l.rest);
      forest : tree.view.forest l.sink ≡ tree.view.forest l.fn.sink;
      quirks : tree.view.quirks l.sink ≡ tree.view.quirks l.fn.sink;
    }

abbrev pub decreases-elements : goal.decreases-elements
decreases-elements g l = length l.rest
