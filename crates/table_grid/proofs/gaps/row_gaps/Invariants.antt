use Rattle.table_grid.proofs.BetweenLemmas.{IsBetween}
use Rattle.table_grid.proofs.gaps.row_gaps.Given as goal

abbrev pub invariant-loop-cover : goal.invariant-loop-cover
invariant-loop-cover l = IsBetween l.row l.covers l.own l.cover-index l.next l.end l.fn.gaps.items l.gaps.items
