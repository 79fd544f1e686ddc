use Rattle.std.proofs.Common.{◌≡◌, length, option_map}
use Rattle.tree_model.specs.Adoption.{furthest_block, last_special, nearer}
use Rattle.tree_model.specs.Building.{seen, stack_of}
use Rattle.html_tree_state.proofs.BlockWords.{or_nearer}
use Rattle.tree_model.proofs.Stacks.{AreElements}
use Rattle.html_tree_state.proofs.construction.Construction.furthest_block.Given as goal

abbrev pub invariant-loop-node : goal.invariant-loop-node
invariant-loop-node g l =
    let tree = g.S.TreeSink in
    let n = tree.view.number l.element in
    let f = tree.view.forest l.self.sink in
    record {
      elements : AreElements f (stack_of tree.view.number l.open);
      same : furthest_block n (seen tree.view l.self.held l.self.sink)
          ≡ or_nearer (last_special f (nearer n (stack_of tree.view.number l.open))) (option_map tree.view.number
          l.block);
    }

abbrev pub decreases-loop-node : goal.decreases-loop-node
decreases-loop-node g l = length l.open
