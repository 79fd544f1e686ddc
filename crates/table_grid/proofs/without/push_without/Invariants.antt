use Rattle.std.proofs.Common.{◌-◌, length}
use Rattle.table_grid.proofs.WithoutLemmas.{IsCutting}
use Rattle.table_grid.proofs.without.push_without.Given as goal

abbrev pub invariant-loop-next : goal.invariant-loop-next
invariant-loop-next l =
    IsCutting l.covers l.ended l.i l.at l.trailing l.next l.left l.fn.kept.items l.kept.items

abbrev pub decreases-loop-next : goal.decreases-loop-next
decreases-loop-next l = length l.ended - l.next
