use Rattle.std.proofs.Common.{◌≡◌, true, sym, subst, ap, ◌∙◌, ◌∷◌, ◌+◌, length, arith}
use Rattle.std.proofs.lemmas.Grind.{common_steps}
use Rattle.tree_model.specs.Building.{Parts, are_counted, stack_of}
use Rattle.tree_model.proofs.CountedLemmas.{counted_more, divided_names, may_count, names_in, none_put_counted}
use Rattle.tree_model.proofs.CountedLemmas.{put_names, put_size}
use Rattle.tree_model.specs.OpenElements.{farther, nearer}
use Rattle.tree_forest.specs.Forest.{name_of}
use Rattle.tree_model.proofs.held.Held.open_below.Goals as goal

pub add-requires : goal.add-requires
add-requires g c =
    let number = g.S.TreeSink.view.number in
    let f = g.S.TreeSink.view.forest c.args.sink.now in
    let items = c.self.inside.open_elements.items in
    let counted = subst (λ (p : Parts g.row.H.Denot). are_counted p.counts (stack_of number p.open_elements) f ≡ true)
    (sym c.self.view_is) c.requires.counted in
    let there = sym (c.in_ok-insert_below.ensures.was_there) ∙ c.if-branch.true in
    let new = c.insert_below.new.elements.items in
    let size : length new ≡ length items + 1 = put_size number (number c.args.element) (number c.args.opened) items new
    c.in_ok-insert_below.ensures.ok there in
    may_count number f c.self.inside.counts items c.len.result (grind (arith, common_steps, size)) counted

pub returns-then-branch-clause-counted : goal.returns-then-branch-clause-counted
returns-then-branch-clause-counted g c =
    let number = g.S.TreeSink.view.number in
    let f = g.S.TreeSink.view.forest c.args.sink.now in
    let items = c.self.inside.open_elements.items in
    let counted = subst (λ (p : Parts g.row.H.Denot). are_counted p.counts (stack_of number p.open_elements) f ≡ true)
    (sym c.self.view_is) c.requires.counted in
    let stack = stack_of number items in
    let n = number c.args.element in
    let there = sym (c.in_ok-insert_below.ensures.was_there) ∙ c.if-branch.true in
    counted_more f c.self.inside.counts c.add.new.self c.elem_name.result.now (number c.args.opened)
    c.elem_name.ensures stack (stack_of number c.insert_below.new.elements.items) (names_in f (nearer n stack))
    (name_of n f ∷ names_in f (farther n stack)) c.add.ensures (divided_names n stack f there)
    (ap (names_in f) c.in_ok-insert_below.ensures.ok ∙ put_names n (number c.args.opened) stack f there) counted

pub returns-else-branch-clause-counted : goal.returns-else-branch-clause-counted
returns-else-branch-clause-counted g c =
    let number = g.S.TreeSink.view.number in
    let f = g.S.TreeSink.view.forest c.args.sink.now in
    let items = c.self.inside.open_elements.items in
    let counted = subst (λ (p : Parts g.row.H.Denot). are_counted p.counts (stack_of number p.open_elements) f ≡ true)
    (sym c.self.view_is) c.requires.counted in
    ap (λ ns. are_counted c.self.inside.counts ns f) c.in_ok-insert_below.ensures.ok
    ∙ none_put_counted (number c.args.element) (number c.args.opened) c.self.inside.counts (stack_of number items) f
    (sym (c.in_ok-insert_below.ensures.was_there) ∙ c.if-branch.false) ∙ counted
