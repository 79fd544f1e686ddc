use Rattle.table_grid.specs.Without.{IsKept}
use Rattle.table_grid.proofs.without.covers_without.Given as goal

abbrev pub invariant-loop-i : goal.invariant-loop-i
invariant-loop-i l = IsKept l.covers l.ended l.i l.at l.trailing l.kept.items
