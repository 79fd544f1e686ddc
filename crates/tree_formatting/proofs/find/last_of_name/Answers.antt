use Rattle.std.proofs.Common.{sym, ◌∙◌}
use Rattle.tree_formatting.proofs.EntryLemmas.{named_before, named_here, named_nowhere}
use Rattle.tree_formatting.proofs.find.last_of_name.Goals as goal

pub returns-then-eq : goal.returns-then-eq
returns-then-eq g c = λ number. sym (named_here number c.args.name.now c.back.rest.now c.in-Some.before.now
    c.in-Some.handle.now c.in-Some.tag.now c.in-Some.ensures.some (sym c.eq.ensures ∙ c.if-eq.true))
    ∙ c.back.invariant number

pub back-preserved : goal.back-preserved
back-preserved g c = λ number. sym (named_before number c.args.name.now c.back.rest.now c.in-Some.before.now
    c.in-Some.handle.now c.in-Some.tag.now c.in-Some.ensures.some (sym c.eq.ensures ∙ c.if-eq.false))
    ∙ c.back.invariant number

pub returns : goal.returns
returns g c = λ number. sym (named_nowhere number c.args.name.now c.back.rest.now
    (c.last_element.ensures.none c.in_default.is)) ∙ c.back.invariant number
