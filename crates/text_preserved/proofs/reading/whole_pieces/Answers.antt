use Rattle.std.proofs.Common.{sym, ◌∙◌}
use Rattle.text_preserved.proofs.TrimLemmas.{bare_at_end, bare_more, whole_before, none_before, nil_length}
use Rattle.text_preserved.proofs.reading.whole_pieces.Goals as goal

pub loop-last-init : goal.loop-last-init
loop-last-init g c = bare_at_end g.T.EqualCopy.seen c.args.width c.args.wraps c.args.pieces.now

pub loop-last-preserved : goal.loop-last-preserved
loop-last-preserved g c =
    bare_more g.T.EqualCopy.seen c.args.width c.args.wraps c.args.pieces.now c.loop-last.rest.now c.in-Some.front.now
    c.in-Some.last.now c.loop-last.invariant c.in-Some.ensures.cases.0 (sym c.has_solid.ensures ∙ c.if-has_solid.false)

pub returns-then-has_solid : goal.returns-then-has_solid
returns-then-has_solid g c =
    whole_before g.T.EqualCopy.seen c.args.width c.args.wraps c.args.pieces.now c.loop-last.rest.now c.in-Some.front.now
    c.in-Some.last.now c.loop-last.invariant c.in-Some.ensures.cases.0 (sym c.has_solid.ensures ∙ c.if-has_solid.true)

pub returns : goal.returns
returns g c =
    none_before g.T.EqualCopy.seen c.args.width c.args.wraps c.args.pieces.now c.loop-last.rest.now
    c.loop-last.invariant
    (nil_length c.loop-last.rest.now c.in_default.ensures.cases)
