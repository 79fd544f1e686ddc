use Rattle.std.proofs.Common.{◌≡◌, take, map, filter}
use Rattle.table_grid.specs.Grid.{row_of, has_column}
use Rattle.table_grid.proofs.kept.rows_left.Given as goal

abbrev pub invariant-loop-s : goal.invariant-loop-s
invariant-loop-s l = l.rows.items ≡ map row_of (filter has_column (take l.s-index l.cells))
