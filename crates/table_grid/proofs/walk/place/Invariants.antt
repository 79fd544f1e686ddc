use Rattle.std.proofs.Common.{◌-◌, length}
use Rattle.table_grid.proofs.WalkLemmas.{IsReached}
use Rattle.table_grid.proofs.walk.place.Given as goal

abbrev pub invariant-loop-at : goal.invariant-loop-at
invariant-loop-at l = IsReached l.covers l.trailing l.span l.at l.start

abbrev pub decreases-loop-at : goal.decreases-loop-at
decreases-loop-at l = length l.covers - l.at
