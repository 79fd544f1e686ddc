use Rattle.std.proofs.Common.{◌≡◌, take, map}
use Rattle.table_grid.specs.Grid.{grid_cell}
use Rattle.table_grid.proofs.kept.grid_cells.Given as goal

abbrev pub invariant-loop-s : goal.invariant-loop-s
invariant-loop-s l = l.grid.items ≡ map (grid_cell l.rows) (take l.s-index l.cells)
