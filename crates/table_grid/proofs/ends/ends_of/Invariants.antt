use Rattle.table_grid.proofs.EndLemmas.{AreEndsTo}
use Rattle.table_grid.proofs.ends.ends_of.Given as goal

abbrev pub invariant-loop-place : goal.invariant-loop-place
invariant-loop-place l = AreEndsTo l.cells l.place l.ends.items
