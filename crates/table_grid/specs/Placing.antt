-- The places of cells and the gaps of rows, as functions: a law says that they are those of the relations.
use Rattle.std.specs.Prelude.{◌+◌, ◌==◌, ◌&&◌, if◌then◌else◌, [], ◌∷◌, ◌++◌, Bool, List, eqb, filter, flat_map, map}
use Rattle.std.specs.Prelude.{max, min, nat_le, nat_lt, not, suc, true, zero, ℕ}
use Rattle.std.specs.List.{list_all, list_any, range_with_len, position_or_len, dedup}
use Rattle.table_grid.specs.declared.cell.Cell.{Cell}
use Rattle.table_grid.specs.declared.cell.PlacedCell.{PlacedCell}
use Rattle.table_grid.specs.declared.gaps.Gap.{Gap}
use Rattle.table_grid.specs.Gaps.{gap_of}
use Rattle.table_grid.specs.Places.{right_of, bottom_of}

-- the column after all cells
unfoldable pub end_of : List PlacedCell → ℕ
end_of [] = 0
end_of (p ∷ placed) = max (right_of p) (end_of placed)

-- a row span from above covers some of the columns from one on, up to another, in this row
abbrev pub covers_some : (row from to : ℕ) → PlacedCell → Bool
covers_some row from to p =
    (nat_lt p.cell.row row && nat_lt row (bottom_of p)) && nat_lt (max p.left from) (min (right_of p) to)

abbrev pub is_passed : (row start : ℕ) → PlacedCell → Bool
is_passed row start p = if p.cell.row == row then nat_le (right_of p) start else true

-- a cell may begin here: after the cells before it in its row, its whole column span free of row spans from above
abbrev pub may_begin : List PlacedCell → Cell → ℕ → Bool
may_begin before cell start = list_all (is_passed cell.row start) before
    && not (list_any (covers_some cell.row start (start + cell.colspan)) before)

-- the first column where it may
unfoldable pub place_of : List PlacedCell → Cell → ℕ
place_of before cell = position_or_len (may_begin before cell) (range_with_len 0 (end_of before))

abbrev pub placed_cell : List PlacedCell → Cell → PlacedCell
placed_cell before cell = record { cell = cell; left = place_of before cell }

abbrev pub placed_after : List PlacedCell → List Cell → List PlacedCell
placed_after before [] = before
placed_after before (cell ∷ cells) = placed_after (before ++ placed_cell before cell ∷ []) cells

-- the cells of a table, row by row, each in its place
unfoldable pub places_of : List Cell → List PlacedCell
places_of cells = placed_after [] cells

-- ---- gaps

-- a cell of this row, or one from above, stands in the column
abbrev pub takes : (row column : ℕ) → PlacedCell → Bool
takes row column p =
    (nat_le p.cell.row row && nat_lt row (bottom_of p)) && (nat_le p.left column && nat_lt column (right_of p))

abbrev pub is_vacant : List PlacedCell → (row column : ℕ) → Bool
is_vacant placed row column = not (list_any (takes row column) placed)

-- the first of the columns without a cell that stand side by side before a column
abbrev pub vacant_from : List PlacedCell → (row column : ℕ) → ℕ
vacant_from placed row zero = zero
vacant_from placed row (suc column) =
    if is_vacant placed row column then vacant_from placed row column else suc column

-- a gap ends before the column, which a cell from above covers
abbrev pub ends_gap : List PlacedCell → (row column : ℕ) → Bool
ends_gap placed row column = nat_lt (vacant_from placed row column) column
    && list_any (covers_some row column (suc column)) placed

abbrev pub gap_before : List PlacedCell → (row column : ℕ) → Gap
gap_before placed row column = gap_of row (vacant_from placed row column) column

abbrev pub gaps_in : List PlacedCell → (row : ℕ) → List Gap
gaps_in placed row = map (gap_before placed row) (filter (ends_gap placed row) (range_with_len 0 (end_of placed)))

abbrev pub row_of : PlacedCell → ℕ
row_of p = p.cell.row

-- the gaps of the rows in which a cell begins, in order
unfoldable pub gaps_of : List PlacedCell → List Gap
gaps_of placed = flat_map (gaps_in placed) (dedup eqb (map row_of placed))
