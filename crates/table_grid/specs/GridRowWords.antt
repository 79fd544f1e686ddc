-- Words of the worked rows: cells and their places, and what is left of them.
use Rattle.std.specs.Prelude.{ℕ, List, filter, map}
use Rattle.table_grid.specs.declared.cell.PlacedCell.{PlacedCell}
use Rattle.table_grid.specs.declared.columns.Column.{Column}
use Rattle.table_grid.specs.declared.grid.GridCell.{GridCell}
use Rattle.table_grid.specs.Grid.{all_columns, grid_cell, has_size, rows_with_cells, spans_of}

-- a cell in a row, of so many columns and rows, with content of one column of text, or without content, at a column
abbrev pub letter : (row colspan rowspan left : ℕ) → PlacedCell
letter row colspan rowspan left =
    record { cell = record { row = row; colspan = colspan; rowspan = rowspan; size = 1; least = 1 }; left = left }

abbrev pub empty : (row colspan rowspan left : ℕ) → PlacedCell
empty row colspan rowspan left =
    record { cell = record { row = row; colspan = colspan; rowspan = rowspan; size = 0; least = 0 }; left = left }

abbrev pub wide : (row colspan size least left : ℕ) → PlacedCell
wide row colspan size least left =
    record { cell = record { row = row; colspan = colspan; rowspan = 1; size = size; least = least }; left = left }

abbrev pub columns_kept : List PlacedCell → List ℕ → List Column
columns_kept placed edges = filter has_size (all_columns placed edges)

abbrev pub cells_kept : List PlacedCell → List ℕ → List GridCell
cells_kept placed edges = map (grid_cell (rows_with_cells (spans_of placed edges))) (spans_of placed edges)

abbrev pub column : (size least : ℕ) → Column
column size least = record { size = size; least = least }

abbrev pub spot : (first last rows : ℕ) → GridCell
spot first last rows = record { first = first; last = last; rows = rows }
