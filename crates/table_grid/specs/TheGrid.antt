-- The grid of a table, as a function: a law says that it is the one that the relation says.
use Rattle.std.specs.Prelude.{ℕ, ◌+◌, ◌==◌, Bool, List, map, filter}
use Rattle.std.specs.List.{list_any, range_with_len}
use Rattle.table_grid.specs.declared.cell.Cell.{Cell}
use Rattle.table_grid.specs.declared.cell.PlacedCell.{PlacedCell}
use Rattle.table_grid.specs.Placing.{end_of, gaps_of, places_of}
use Rattle.table_grid.specs.Grid.{all_columns, gap_left, grid_cell, has_size, rows_with_cells, sides, spans_of}
use Rattle.table_grid.specs.declared.columns.Column.{Column}
use Rattle.table_grid.specs.declared.grid.GridCell.{GridCell}
use Rattle.table_grid.specs.declared.grid.GridGap.{GridGap}

-- the columns that have a size, where each cell stands, and the gaps
pub record TheGrid : Type 0 where
  pub columns : List Column
  pub cells : List GridCell
  pub gaps : List GridGap

abbrev pub is_edge : List PlacedCell → ℕ → Bool
is_edge placed column = list_any (λ edge. edge == column) (sides placed)

-- the distinct edges, in order
unfoldable pub edges_of : List PlacedCell → List ℕ
edges_of placed = filter (is_edge placed) (range_with_len 0 (end_of placed + 1))

abbrev pub grid_between : List PlacedCell → List ℕ → TheGrid
grid_between placed edges = record {
  columns = filter has_size (all_columns placed edges);
  cells = map (grid_cell (rows_with_cells (spans_of placed edges))) (spans_of placed edges);
  gaps = map (gap_left edges (all_columns placed edges)) (gaps_of placed);
}

unfoldable pub grid : List Cell → TheGrid
grid cells = grid_between (places_of cells) (edges_of (places_of cells))
