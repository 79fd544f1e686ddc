use Rattle.std.proofs.Common.{◌≡◌, true, refl, [], sym, subst, ap, ◌∙◌, arith}
use Rattle.std.proofs.lemmas.Grind.{common_steps}
use Rattle.tree_model.specs.Building.{Parts, are_counted, stack_of}
use Rattle.tree_model.proofs.CountedLemmas.{counted_more, may_count, names_in}
use Rattle.tree_model.proofs.Stacks.{stack_of_last}
use Rattle.tree_model.proofs.held.Held.push.Goals as goal

pub add-requires : goal.add-requires
add-requires g c =
    let number = g.S.TreeSink.view.number in
    let f = g.S.TreeSink.view.forest c.args.sink.now in
    let counted = subst (λ (p : Parts g.row.H.Denot). are_counted p.counts (stack_of number p.open_elements) f ≡ true)
    (sym c.self.view_is) c.requires.counted in
    may_count number f c.self.inside.counts c.self.inside.open_elements.items c.len.result
    (grind (arith, common_steps)) counted

pub returns-clause-counted : goal.returns-clause-counted
returns-clause-counted g c =
    let number = g.S.TreeSink.view.number in
    let f = g.S.TreeSink.view.forest c.args.sink.now in
    let items = c.self.inside.open_elements.items in
    let counted = subst (λ (p : Parts g.row.H.Denot). are_counted p.counts (stack_of number p.open_elements) f ≡ true)
    (sym c.self.view_is) c.requires.counted in
    counted_more f c.self.inside.counts c.add.new.self c.elem_name.result.now (number c.args.element)
    c.elem_name.ensures (stack_of number items) (stack_of number c.push.new.self.items) []
    (names_in f (stack_of number items)) c.add.ensures refl
    (ap (names_in f) (ap (stack_of number) c.in_ok-push.ensures.items ∙ stack_of_last number items c.args.element))
    counted
