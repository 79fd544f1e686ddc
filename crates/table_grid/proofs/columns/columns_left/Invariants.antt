use Rattle.std.proofs.Common.{◌≡◌, take, filter}
use Rattle.table_grid.specs.Grid.{has_size}
use Rattle.table_grid.proofs.columns.columns_left.Given as goal

abbrev pub invariant-loop-column : goal.invariant-loop-column
invariant-loop-column l = l.left.items ≡ filter has_size (take l.column-index l.columns)
