use Rattle.std.proofs.Common.{◌≡◌, false, List, ◌∙◌, ap, subst, sym}
use Rattle.tree_forest.specs.Forest.{is_in}
use Rattle.tree_model.specs.Building.{stack_of}
use Rattle.tree_model.specs.OpenAt.{IsOpenAt}
use Rattle.tree_model.proofs.OpenLemmas.{put_at, put_before_none}
use Rattle.tree_model.proofs.held.insert_below.Goals as goal

pub returns-clause-ok : goal.returns-clause-ok
returns-clause-ok g c =
    let number = g.S.TreeSink.view.number in
    let at = subst (λ (xs : List g.row.H.Denot). IsOpenAt number (number c.args.element) xs c.in-Some.at)
    c.as_slice.ensures.value c.in-Some.ensures.found in
    ap (stack_of number) c.in_ok-insert.ensures.items
    ∙ put_at number (number c.args.element) c.args.elements.now.items c.in-Some.at c.args.opened at

pub returns-in_default-clause-ok : goal.returns-in_default-clause-ok
returns-in_default-clause-ok g c =
    let number = g.S.TreeSink.view.number in
    let none = subst (λ (xs : List g.row.H.Denot). is_in (number c.args.element) (stack_of number xs) ≡ false)
    c.as_slice.ensures.value (c.position.ensures.missing c.in_default.is) in
    sym (put_before_none (number c.args.element) (number c.args.opened)
    (stack_of number c.args.elements.now.items) none)

pub returns-clause-was_there : goal.returns-clause-was_there
returns-clause-was_there g c =
    let number = g.S.TreeSink.view.number in
    let at = subst (λ (xs : List g.row.H.Denot). IsOpenAt number (number c.args.element) xs c.in-Some.at)
    c.as_slice.ensures.value c.in-Some.ensures.found in
    sym at.is_there

pub returns-in_default-clause-was_there : goal.returns-in_default-clause-was_there
returns-in_default-clause-was_there g c =
    let number = g.S.TreeSink.view.number in
    sym (subst (λ (xs : List g.row.H.Denot). is_in (number c.args.element) (stack_of number xs) ≡ false)
    c.as_slice.ensures.value (c.position.ensures.missing c.in_default.is))
