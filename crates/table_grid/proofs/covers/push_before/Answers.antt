use Rattle.std.proofs.Common.{arith}
use Rattle.table_grid.proofs.MergeLemmas.{pushed_more}
use Rattle.table_grid.proofs.covers.push_before.Goals as goal

pub loop-next-preserved : goal.loop-next-preserved
loop-next-preserved c =
    pushed_more c.args.covers.now c.args.at c.loop-next.next c.args.limit c.args.merged.now.items
    c.loop-next.merged.items c.push_cover.new.covers.items
    c.requires.ordered c.requires.apart (omega arith) (omega arith) c.loop-next.invariant
    c.in_ok-push_cover.ensures.ordered c.in_ok-push_cover.ensures.trailing c.in_ok-push_cover.ensures.fewer
    c.in_ok-push_cover.ensures.more
