use Rattle.std.proofs.Common.{◌≡◌, true, refl, [], ◌∙◌, sym, subst, ap}
use Rattle.tree_model.specs.Building.{Parts, are_counted, stack_of}
use Rattle.tree_model.proofs.CountedLemmas.{counted_less, is_counted, names_in}
use Rattle.tree_model.proofs.Stacks.{stack_of_last}
use Rattle.tree_model.proofs.held.Held.pop.Goals as goal

pub remove-requires : goal.remove-requires
remove-requires g c =
    let number = g.S.TreeSink.view.number in
    let f = g.S.TreeSink.view.forest c.args.sink.now in
    let items = c.self.inside.open_elements.items in
    let counted = subst (λ (p : Parts g.row.H.Denot). are_counted p.counts (stack_of number p.open_elements) f ≡ true)
    (sym c.self.view_is) c.requires.counted in
    is_counted f c.self.inside.counts c.self.inside.counts c.elem_name.result.now (number c.in-Some.element)
    c.elem_name.ensures (stack_of number items) [] [] (names_in f (stack_of number c.pop.new.self.items))
    (ap (names_in f) (ap (stack_of number) c.in-Some.ensures.items
    ∙ stack_of_last number c.pop.new.self.items c.in-Some.element)) counted

pub returns-in-Some-clause-counted : goal.returns-in-Some-clause-counted
returns-in-Some-clause-counted g c =
    let number = g.S.TreeSink.view.number in
    let f = g.S.TreeSink.view.forest c.args.sink.now in
    let items = c.self.inside.open_elements.items in
    let counted = subst (λ (p : Parts g.row.H.Denot). are_counted p.counts (stack_of number p.open_elements) f ≡ true)
    (sym c.self.view_is) c.requires.counted in
    counted_less f c.self.inside.counts c.remove.new.self c.elem_name.result.now (number c.in-Some.element)
    c.elem_name.ensures (stack_of number items) (stack_of number c.pop.new.self.items) []
    (names_in f (stack_of number c.pop.new.self.items)) c.remove.ensures
    (ap (names_in f) (ap (stack_of number) c.in-Some.ensures.items
    ∙ stack_of_last number c.pop.new.self.items c.in-Some.element)) refl counted
