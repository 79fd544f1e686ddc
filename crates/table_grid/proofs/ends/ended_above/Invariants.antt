use Rattle.std.proofs.Common.{◌-◌, length}
use Rattle.table_grid.proofs.EndLemmas.{AreEndedTo}
use Rattle.table_grid.proofs.ends.ended_above.Given as goal

abbrev pub invariant-loop-at : goal.invariant-loop-at
invariant-loop-at l = AreEndedTo l.ends l.over l.at l.placed l.row l.ended.items

abbrev pub decreases-loop-at : goal.decreases-loop-at
decreases-loop-at l = length l.ends - l.at
