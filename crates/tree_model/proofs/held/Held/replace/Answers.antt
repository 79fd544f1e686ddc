use Rattle.std.proofs.Common.{◌≡◌, true, sym, subst, ap, ◌∙◌}
use Rattle.tree_model.specs.Building.{Parts, are_counted, stack_of}
use Rattle.tree_model.proofs.CountedLemmas.{replaced_counted}
use Rattle.tree_model.proofs.held.Held.replace.Goals as goal

pub returns-clause-counted : goal.returns-clause-counted
returns-clause-counted g c =
    let number = g.S.TreeSink.view.number in
    let f = g.S.TreeSink.view.forest c.args.sink.now in
    let items = c.self.inside.open_elements.items in
    let counted = subst (λ (p : Parts g.row.H.Denot). are_counted p.counts (stack_of number p.open_elements) f ≡ true)
    (sym c.self.view_is) c.requires.counted in
    ap (λ ns. are_counted c.self.inside.counts ns f) c.put_in_place_of.ensures
    ∙ replaced_counted (number c.args.element) (number c.args.to) c.self.inside.counts (stack_of number items) f
    c.requires.name ∙ counted
