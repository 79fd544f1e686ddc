use Rattle.table_grid.proofs.MergeLemmas.{IsMerging}
use Rattle.table_grid.proofs.covers.merge_covers.Given as goal

abbrev pub invariant-loop-cover : goal.invariant-loop-cover
invariant-loop-cover l = IsMerging l.covers l.own l.at l.cover-index l.merged.items
