use Rattle.std.proofs.Common.{arith, sym, ◌∙◌}
use Rattle.tree_formatting.proofs.CountingLemmas.{counting_alike, counting_other, few, few_within, many, many_passed}
use Rattle.tree_formatting.proofs.find.earliest_of_three.Goals as goal

pub returns-then-most-lt-MOST_ALIKE-clause-few : goal.returns-then-most-lt-MOST_ALIKE-clause-few
returns-then-most-lt-MOST_ALIKE-clause-few g c = λ e. few_within c.args.tag.now c.args.entries.now c.args.most
    c.requires (omega arith)

pub returns-then-alike-most-clause-many : goal.returns-then-alike-most-clause-many
returns-then-alike-most-clause-many g c = many_passed c.args.tag.now c.args.entries.now c.in-Some.before.now _ _
    c.args.most (counting_alike c.args.tag.now c.args.entries.now c.back.rest.now
    c.in-Some.before.now c.back.alike c.back.earliest c.in-Some.field-0-0.now c.in-Some.held.now
    c.in-Some.ensures.some c.back.invariant (sym c.is_alike.ensures ∙ c.if-is_alike.true)) c.requires
    (omega arith) (omega arith)

pub back-preserved-else-alike-most : goal.back-preserved-else-alike-most
back-preserved-else-alike-most g c = counting_alike c.args.tag.now c.args.entries.now c.back.rest.now
    c.in-Some.before.now c.back.alike c.back.earliest c.in-Some.field-0-0.now c.in-Some.held.now
    c.in-Some.ensures.some c.back.invariant (sym c.is_alike.ensures ∙ c.if-is_alike.true)

pub back-preserved : goal.back-preserved
back-preserved g c = counting_other c.args.tag.now c.args.entries.now c.back.rest.now
    c.in-Some.before.now c.back.alike c.back.earliest c.in-Some.field-0-0.now c.in-Some.held.now
    c.in-Some.ensures.some c.back.invariant (sym c.is_alike.ensures ∙ c.if-is_alike.false)

pub returns-then-alike-ge-MOST_ALIKE-clause-many : goal.returns-then-alike-ge-MOST_ALIKE-clause-many
returns-then-alike-ge-MOST_ALIKE-clause-many g c = many c.args.tag.now c.args.entries.now c.back.rest.now c.back.alike
    c.back.earliest c.back.invariant (c.last_element.ensures.none c.in_default.is) (omega arith)

pub returns-else-alike-ge-MOST_ALIKE-clause-few : goal.returns-else-alike-ge-MOST_ALIKE-clause-few
returns-else-alike-ge-MOST_ALIKE-clause-few g c = λ e. few c.args.tag.now c.args.entries.now c.back.rest.now
    c.back.alike c.back.earliest c.back.invariant (c.last_element.ensures.none c.in_default.is) (omega arith)
