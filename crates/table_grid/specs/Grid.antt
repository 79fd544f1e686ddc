-- The grid of a table: columns between the edges of its cells, what each asks for, and what is left without those of
-- size 0.
use Rattle.std.specs.Prelude.{◌≡◌, ◌+◌, ◌-◌, ◌/◌, ◌&&◌, ◌++◌, Bool, Contains, List, count_by, eqb, filter, length, map}
use Rattle.std.specs.Prelude.{nat_le, nat_lt, take, ℕ}
use Rattle.std.specs.List.{range_with_len, dedup}
use Rattle.std.specs.List.Sorted.{IsStrictlyIncreasing}
use Rattle.table_grid.specs.declared.cell.Cell.{Cell}
use Rattle.table_grid.specs.declared.cell.PlacedCell.{PlacedCell}
use Rattle.table_grid.specs.Places.{left_of, right_of, ArePlaced}
use Rattle.table_grid.specs.declared.part.Part.{Part}
use Rattle.table_grid.specs.Columns.{greatest_at}
use Rattle.table_grid.specs.declared.edges.SpannedCell.{SpannedCell}
use Rattle.table_grid.specs.declared.columns.Column.{Column}
use Rattle.table_grid.specs.declared.grid.GridCell.{GridCell}
use Rattle.table_grid.specs.declared.grid.GridGap.{GridGap}
use Rattle.table_grid.specs.declared.gaps.Gap.{Gap}
use Rattle.table_grid.specs.Gaps.{AreGaps}

-- the edges of the cells
abbrev pub sides : List PlacedCell → List ℕ
sides placed = map left_of placed ++ map right_of placed

-- the distinct edges, in order
pub record AreEdges (placed : List PlacedCell) (edges : List ℕ) : Type 0 where
  pub rising : IsStrictlyIncreasing edges
  pub all : (edge : ℕ) → Contains (sides placed) edge → Contains edges edge
  pub only : (edge : ℕ) → Contains edges edge → Contains (sides placed) edge

-- how many stand before it
unfoldable pub rank : List ℕ → ℕ → ℕ
rank xs x = count_by (λ y. nat_lt y x) xs

-- a column lies between neighbouring distinct edges: a cell's columns, from the rank of its left edge to before that of
-- its right edge
abbrev pub span_in : List ℕ → PlacedCell → SpannedCell
span_in edges p = record { cell = p.cell; first = rank edges p.left; last = rank edges (right_of p) }

-- how many columns it covers
abbrev pub span_of : SpannedCell → ℕ
span_of s = s.last - s.first

-- what it asks of each
abbrev pub size_part : SpannedCell → Part
size_part s = record { first = s.first; last = s.last; value = s.cell.size / span_of s }

abbrev pub least_part : SpannedCell → Part
least_part s = record { first = s.first; last = s.last; value = s.cell.least / span_of s }

-- a column's size is the greatest that its cells ask for, its least the same of leasts
abbrev pub column_at : List SpannedCell → ℕ → Column
column_at cells column =
    record { size = greatest_at (map size_part cells) column; least = greatest_at (map least_part cells) column }

abbrev pub columns_between : List SpannedCell → ℕ → List Column
columns_between cells count = map (column_at cells) (range_with_len 0 count)

abbrev pub has_size : Column → Bool
has_size c = nat_lt 0 c.size

-- how many of the columns before it are left when those of size 0 are taken out
unfoldable pub left_before : List Column → ℕ → ℕ
left_before columns column = count_by has_size (take column columns)

-- a cell's columns among those that are left
abbrev pub span_left : List Column → SpannedCell → SpannedCell
span_left columns s = record { cell = s.cell; first = left_before columns s.first; last = left_before columns s.last }

abbrev pub has_column : SpannedCell → Bool
has_column s = nat_lt s.first s.last

abbrev pub row_of : SpannedCell → ℕ
row_of s = s.cell.row

-- the rows that still have a cell
abbrev pub rows_with_cells : List SpannedCell → List ℕ
rows_with_cells cells = dedup eqb (map row_of (filter has_column cells))

-- of those, how many a cell's row span reaches, its own row counted
abbrev pub rows_reached : List ℕ → SpannedCell → ℕ
rows_reached rows s = count_by (λ r. nat_le s.cell.row r && nat_lt r (s.cell.row + s.cell.rowspan)) rows

abbrev pub grid_cell : List ℕ → SpannedCell → GridCell
grid_cell rows s = record { first = s.first; last = s.last; rows = rows_reached rows s }

-- a gap's columns among those that are left
abbrev pub gap_left : List ℕ → List Column → Gap → GridGap
gap_left edges columns g =
    record {
      row = g.row;
      first = left_before columns (rank edges g.left);
      last =
          left_before columns (rank edges g.right);
    }

-- all columns, those of size 0 too
abbrev pub all_columns : List PlacedCell → List ℕ → List Column
all_columns placed edges = columns_between (map (span_in edges) placed) (length edges - 1)

-- the cells with their columns among those that are left
abbrev pub spans_of : List PlacedCell → List ℕ → List SpannedCell
spans_of placed edges = map (span_left (all_columns placed edges)) (map (span_in edges) placed)

-- the columns, cells and gaps of a table; what has no column left, its `first` being its `last`, is skipped
pub record IsGrid (cells : List Cell) (columns : List Column) (grid : List GridCell) (gaps : List GridGap) : Type 0
  where
    pub placed : List PlacedCell
    pub edges : List ℕ
    pub between : List Gap
    pub are_placed : ArePlaced cells placed
    pub are_edges : AreEdges placed edges
    pub are_gaps : AreGaps placed between
    pub columns_are : columns ≡ filter has_size (all_columns placed edges)
    pub cells_are : grid ≡ map (grid_cell (rows_with_cells (spans_of placed edges))) (spans_of placed edges)
    pub gaps_are : gaps ≡ map (gap_left edges (all_columns placed edges)) between
