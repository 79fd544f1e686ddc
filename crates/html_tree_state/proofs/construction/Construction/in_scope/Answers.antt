use Rattle.std.proofs.Common.{sym, ◌∙◌}
use Rattle.tree_model.specs.Building.{stack_of}
use Rattle.tree_model.proofs.CountedLemmas.{counts_are, names_in, none_in_scope}
use Rattle.html_tree_state.proofs.construction.Construction.in_scope.Goals as goal
use Rattle.tree_names.specs.Wanted.{barriers_of, elements_of}

pub returns-then-has_none : goal.returns-then-has_none
returns-then-has_none g c =
    let f = g.S.TreeSink.view.forest c.args.self.now.sink in
    let stack = stack_of g.S.TreeSink.view.number c.args.self.now.held.open_elements in
    sym (none_in_scope (elements_of c.args.wanted) (barriers_of c.args.scope) f stack
    (c.has_none.ensures.none (names_in f stack)
    (c.counts.ensures ∙ counts_are c.args.self.now.held.counts stack f c.requires.counted) c.if-has_none.true))
