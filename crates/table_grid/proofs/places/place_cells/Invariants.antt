use Rattle.std.proofs.Common.{◌-◌, length}
use Rattle.table_grid.specs.Ends.{AreEnds, IsUpTo}
use Rattle.table_grid.specs.Gaps.{AreGaps}
use Rattle.table_grid.proofs.places.place_cells.Given as goal

abbrev pub invariant-rows : goal.invariant-rows
invariant-rows l = record {
  ends : AreEnds l.cells l.ends.items;
  state : IsUpTo l.cells l.ends.items l.over l.covers.items l.own.items l.placed.items;
  gaps : AreGaps l.placed.items l.gaps.items;
}

abbrev pub decreases-rows : goal.decreases-rows
decreases-rows l = length l.cells - length l.placed.items
