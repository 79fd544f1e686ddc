use Rattle.std.proofs.Common.{arith}
use Rattle.table_grid.proofs.MergeLemmas.{all_before, merging_more, merged_end, merged_start}
use Rattle.table_grid.proofs.covers.merge_covers.Goals as goal

pub push_before-requires-clause-apart : goal.push_before-requires-clause-apart
push_before-requires-clause-apart c =
    all_before c.args.covers.now c.args.own.now c.loop-cover.cover-index c.requires.ordered c.requires.own
    c.requires.apart (omega arith)

pub loop-cover-preserved : goal.loop-cover-preserved
loop-cover-preserved c =
    merging_more c.args.covers.now c.args.own.now c.loop-cover.at c.in_ok-at.at c.loop-cover.cover-index
    c.loop-cover.merged.items c.push_before.new.merged.items c.push_cover.new.covers.items
    c.requires.ordered c.requires.own c.requires.apart (omega arith) c.loop-cover.invariant c.in_ok-at.ensures.pushed
    c.in_ok-at.ensures.over
    c.in_ok-push_cover.ensures.ordered c.in_ok-push_cover.ensures.trailing c.in_ok-push_cover.ensures.fewer
    c.in_ok-push_cover.ensures.more

pub push_before-requires-2-clause-start : goal.push_before-requires-2-clause-start
push_before-requires-2-clause-start c =
    merged_start c.args.covers.now c.args.own.now c.loop-cover.at c.loop-cover.cover-index
    c.loop-cover.merged.items c.requires.small c.requires.small_own c.loop-cover.invariant

pub returns : goal.returns
returns c =
    merged_end c.args.covers.now c.args.own.now c.loop-cover.at c.in_ok-push_before.field-0
    c.loop-cover.cover-index c.loop-cover.merged.items c.push_before-2.new.merged.items
    c.requires.ordered c.requires.small (omega arith) c.loop-cover.invariant c.in_ok-push_before.ensures.pushed
    c.in_ok-push_before.ensures.over
