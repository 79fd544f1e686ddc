use Rattle.std.proofs.Common.{sym, ◌∙◌}
use Rattle.tree_model.specs.Building.{stack_of}
use Rattle.tree_model.proofs.CountedLemmas.{counts_are, names_in, none_closed}
use Rattle.html_tree_state.proofs.construction.Construction.foreign_element.Goals as goal

pub returns-then-has_no_foreign : goal.returns-then-has_no_foreign
returns-then-has_no_foreign g c =
    let f = g.S.TreeSink.view.forest c.args.self.now.sink in
    let stack = stack_of g.S.TreeSink.view.number c.args.self.now.held.open_elements in
    sym (none_closed c.args.name.now f stack (c.has_no_foreign.ensures (names_in f stack)
    (c.counts.ensures ∙ counts_are c.args.self.now.held.counts stack f c.requires.counted) c.if-has_no_foreign.true))
