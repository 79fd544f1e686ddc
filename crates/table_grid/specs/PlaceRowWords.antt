-- Words of the worked rows: cells of a row, of so many columns and rows, and the same at a column.
use Rattle.std.specs.Prelude.{ℕ}
use Rattle.table_grid.specs.declared.cell.Cell.{Cell}
use Rattle.table_grid.specs.declared.cell.PlacedCell.{PlacedCell}

abbrev pub cell : (row colspan rowspan : ℕ) → Cell
cell row colspan rowspan = record { row = row; colspan = colspan; rowspan = rowspan; size = 1; least = 1 }

abbrev pub at : (left row colspan rowspan : ℕ) → PlacedCell
at left row colspan rowspan = record { cell = cell row colspan rowspan; left = left }
