use Rattle.std.proofs.Common.{sym, ap, ◌∙◌}
use Rattle.tree_model.specs.Building.{Building, seen}
use Rattle.tree_model.proofs.OpenLemmas.{left_out_none}
use Rattle.html_tree_state.proofs.construction.Construction.remove_element_from_stack.Goals as goal

pub returns-else-is_element_open-clause-seen : goal.returns-else-is_element_open-clause-seen
returns-else-is_element_open-clause-seen g c =
    let tree = g.S.TreeSink in
    let b : Building = seen tree.view c.args.self.now.held c.args.self.now.sink in
    ap (λ ns. record b { stack = ns }) (sym (left_out_none (tree.view.number c.args.element) b.stack
    (sym c.is_element_open.ensures ∙ c.if-is_element_open.false)))
