use Rattle.std.proofs.Common.{◌≡◌, length, map, option_map}
use Rattle.tree_forest.specs.Forest.{name_of}
use Rattle.tree_model.specs.Building.{seen, stack_of}
use Rattle.tree_model.specs.Names.{names_of}
use Rattle.tree_model.proofs.Stacks.{AreElements}
use Rattle.tree_predicates.specs.Modes.{reset_mode}
use Rattle.html_tree_state.proofs.construction.Construction.reset_insertion_mode.Given as goal

abbrev pub invariant-loop-element : goal.invariant-loop-element
invariant-loop-element g l =
    let tree = g.S.TreeSink in
    let f = tree.view.forest l.self.sink in
    record {
      elements : AreElements f (stack_of tree.view.number l.open);
      same : reset_mode (option_map (λ name. name.now) l.context) l.has_head l.template_mode
          (names_of (seen tree.view l.self.held l.self.sink))
          ≡ reset_mode (option_map (λ name. name.now) l.context) l.has_head l.template_mode
          (map (λ n. name_of n f) (stack_of tree.view.number l.open));
    }

abbrev pub decreases-loop-element : goal.decreases-loop-element
decreases-loop-element g l = length l.open
