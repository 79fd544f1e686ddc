use Rattle.std.proofs.Common.{◌≡◌, false, List, subst, sym}
use Rattle.tree_forest.specs.Forest.{is_in}
use Rattle.tree_model.specs.Building.{stack_of}
use Rattle.tree_model.specs.OpenAt.{IsOpenAt}
use Rattle.tree_model.proofs.OpenLemmas.{replaced_at, replaced_none}
use Rattle.tree_model.proofs.held.put_in_place_of.Goals as goal

pub returns-in-Some : goal.returns-in-Some
returns-in-Some g c =
    let number = g.S.TreeSink.view.number in
    let at = subst (λ (xs : List g.row.H.Denot). IsOpenAt number (number c.args.element) xs c.in-Some.at)
    c.as_slice.ensures.value c.in-Some.ensures.found in
    replaced_at number (number c.args.element) c.args.elements.now.items c.in-Some.at c.args.to at c.requires

pub returns-in_default : goal.returns-in_default
returns-in_default g c =
    let number = g.S.TreeSink.view.number in
    let none = subst (λ (xs : List g.row.H.Denot). is_in (number c.args.element) (stack_of number xs) ≡ false)
    c.as_slice.ensures.value (c.position.ensures.missing c.in_default.is) in
    sym (replaced_none (number c.args.element) (number c.args.to) (stack_of number c.args.elements.now.items) none)
