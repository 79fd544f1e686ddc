use Rattle.tree_model.specs.Building.{seen}
use Rattle.tree_model.proofs.ListedAfter.{tag_listed}
use Rattle.html_tree_state.proofs.construction.Construction.turn_with.Goals as goal

pub is_element_open-requires-clause-element : goal.is_element_open-requires-clause-element
is_element_open-requires-clause-element g c =
    let tree = g.S.TreeSink in
    (c.requires.sound.listed (tree.view.number c.args.element) c.args.tag
    (tag_listed (tree.view.number c.args.element) c.args.tag
    (seen tree.view c.args.self.now.held c.args.self.now.sink).formatting
    c.requires.tagged)).element
