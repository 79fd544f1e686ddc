use Rattle.std.proofs.Common.{arith}
use Rattle.table_grid.proofs.BetweenLemmas.{between_more, between_end}
use Rattle.table_grid.proofs.gaps.row_gaps.Goals as goal

pub loop-cover-preserved : goal.loop-cover-preserved
loop-cover-preserved c =
    between_more c.args.row c.args.covers.now c.args.own.now c.loop-cover.cover-index c.loop-cover.next c.loop-cover.end
    c.pass_before-before.result.1 c.pass_before-before.result.0
    c.args.gaps.now.items c.loop-cover.gaps.items c.push_gap.new.gaps.items c.requires.ordered c.requires.own
    c.requires.apart (omega arith) c.loop-cover.invariant
    c.pass_before-before.ensures c.in_ok-push_gap.ensures.some c.in_ok-push_gap.ensures.none

pub returns : goal.returns
returns c =
    between_end c.args.row c.args.covers.now c.args.own.now c.loop-cover.cover-index c.loop-cover.next c.loop-cover.end
    c.args.gaps.now.items c.loop-cover.gaps.items
    (omega arith) c.loop-cover.invariant
