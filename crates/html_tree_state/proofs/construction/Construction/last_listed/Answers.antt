use Rattle.std.proofs.Common.{sym, ap, ◌∙◌, option_map}
use Rattle.tree_formatting.specs.Entries.{entries_of, last_named}
use Rattle.tree_model.proofs.TurnLemmas.{named_with_tag}
use Rattle.html_tree_state.proofs.construction.Construction.last_listed.Goals as goal

pub returns-clause-named : goal.returns-clause-named
returns-clause-named g c =
    let number = g.S.TreeSink.view.number in
    ap (option_map number) (sym c.in_ok-element.was) ∙ c.last_named.ensures number
    ∙ ap (λ es. last_named c.args.name.now (entries_of number es)) c.formatting.ensures

pub returns-clause-element : goal.returns-clause-element
returns-clause-element g c =
    let listed = named_with_tag c.args.name.now (g.S.TreeSink.view.number c.in_ok-element.element)
    (entries_of g.S.TreeSink.view.number c.args.self.now.held.entries) (sym (returns-clause-named g c)) in
    (c.requires.listed (g.S.TreeSink.view.number c.in_ok-element.element) listed.0 listed.1).element
