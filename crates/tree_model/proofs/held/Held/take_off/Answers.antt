use Rattle.std.proofs.Common.{◌≡◌, true, [], sym, subst, ap, ◌∙◌}
use Rattle.tree_forest.specs.Orders.{AreDistinct, IsIn}
use Rattle.tree_model.specs.Building.{Parts, are_counted, stack_of}
use Rattle.tree_model.proofs.CountedLemmas.{counted_less, divided_names, is_counted, is_in_them, left_names, names_in}
use Rattle.tree_model.proofs.CountedLemmas.{none_left_counted}
use Rattle.tree_model.specs.OpenElements.{farther, nearer}
use Rattle.tree_model.proofs.held.Held.take_off.Goals as goal

pub elem_name-requires : goal.elem_name-requires
elem_name-requires g c =
    let number = g.S.TreeSink.view.number in
    c.requires.elements (number c.args.element)
    (subst (λ (p : Parts g.row.H.Denot). IsIn (number c.args.element) (stack_of number p.open_elements)) c.self.view_is
    (is_in_them (number c.args.element) (stack_of number c.self.inside.open_elements.items)
    (sym c.if-leave_out.ensures.was_there)))

pub remove-requires : goal.remove-requires
remove-requires g c =
    let number = g.S.TreeSink.view.number in
    let f = g.S.TreeSink.view.forest c.args.sink.now in
    let items = c.self.inside.open_elements.items in
    let counted = subst (λ (p : Parts g.row.H.Denot). are_counted p.counts (stack_of number p.open_elements) f ≡ true)
    (sym c.self.view_is) c.requires.counted in
    let stack = stack_of number items in
    let n = number c.args.element in
    is_counted f c.self.inside.counts c.self.inside.counts c.elem_name.result.now n
    c.elem_name.ensures stack [] (names_in f (nearer n stack)) (names_in f (farther n stack))
    (divided_names n stack f (sym c.if-leave_out.ensures.was_there)) counted

pub returns-then-leave_out-clause-counted : goal.returns-then-leave_out-clause-counted
returns-then-leave_out-clause-counted g c =
    let number = g.S.TreeSink.view.number in
    let f = g.S.TreeSink.view.forest c.args.sink.now in
    let items = c.self.inside.open_elements.items in
    let counted = subst (λ (p : Parts g.row.H.Denot). are_counted p.counts (stack_of number p.open_elements) f ≡ true)
    (sym c.self.view_is) c.requires.counted in
    let stack = stack_of number items in
    let n = number c.args.element in
    let distinct = subst (λ (p : Parts g.row.H.Denot). AreDistinct (stack_of number p.open_elements))
    (sym c.self.view_is) c.requires.distinct in
    counted_less f c.self.inside.counts c.remove.new.self c.elem_name.result.now n c.elem_name.ensures stack
    (stack_of number c.leave_out.new.elements.items) (names_in f (nearer n stack)) (names_in f (farther n stack))
    c.remove.ensures (divided_names n stack f (sym c.if-leave_out.ensures.was_there))
    (ap (names_in f) c.if-leave_out.ensures.left ∙ left_names n stack f distinct) counted

pub returns-else-leave_out-clause-counted : goal.returns-else-leave_out-clause-counted
returns-else-leave_out-clause-counted g c =
    let number = g.S.TreeSink.view.number in
    let f = g.S.TreeSink.view.forest c.args.sink.now in
    let items = c.self.inside.open_elements.items in
    let counted = subst (λ (p : Parts g.row.H.Denot). are_counted p.counts (stack_of number p.open_elements) f ≡ true)
    (sym c.self.view_is) c.requires.counted in
    ap (λ ns. are_counted c.self.inside.counts ns f) c.if-leave_out.ensures.left
    ∙ none_left_counted (number c.args.element) c.self.inside.counts (stack_of number items) f
    (sym c.if-leave_out.ensures.was_there) ∙ counted
