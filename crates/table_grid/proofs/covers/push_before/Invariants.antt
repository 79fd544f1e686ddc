use Rattle.std.proofs.Common.{◌-◌, length}
use Rattle.table_grid.specs.Covers.{ArePushed}
use Rattle.table_grid.proofs.covers.push_before.Given as goal

abbrev pub invariant-loop-next : goal.invariant-loop-next
invariant-loop-next l = ArePushed l.covers l.at l.next l.limit l.fn.merged.items l.merged.items

abbrev pub decreases-loop-next : goal.decreases-loop-next
decreases-loop-next l = length l.covers - l.next
