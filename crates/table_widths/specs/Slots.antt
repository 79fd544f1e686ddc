-- The rows of a table, as they are to be shown: which columns of its grid each cell takes, and where a place is empty.
use Rattle.std.specs.Prelude.{◌-◌, ◌==◌, ◌&&◌, if◌then◌else◌, [], ◌∷◌, ◌++◌, Bool, List, drop, false, filter, map}
use Rattle.std.specs.Prelude.{nat_lt, true, ℕ}
use Rattle.std.specs.List.{list_any, prefix_len, range_with_len, take_while, zip}
use Rattle.table_grid.specs.declared.cell.Cell.{Cell}
use Rattle.table_grid.specs.TheGrid.{TheGrid, grid}
use Rattle.table_grid.specs.declared.columns.Column.{Column}
use Rattle.table_grid.specs.declared.grid.GridCell.{GridCell}
use Rattle.table_grid.specs.declared.grid.GridGap.{GridGap}
use Rattle.table_widths.specs.declared.slot.Slot.{Slot}

abbrev pub has_columns : Slot → Bool
has_columns s = nat_lt s.first s.last

-- a cell of the row; one without a column keeps its place among the cells
abbrev pub cell_slot : Cell × GridCell → Slot
cell_slot c = record { first = c.1.first; last = c.1.last; rows = c.1.rows; is_cell = true }

abbrev pub gap_slot : GridGap → Slot
gap_slot g = record { first = g.first; last = g.last; rows = 1; is_cell = false }

abbrev pub begins_before : Slot → Slot → Bool
begins_before s other = nat_lt other.first s.first

-- slots of a row, and others among them: each before the first of these that begins after it
abbrev pub merged : List Slot → (others : List Slot) → List Slot
merged [] others = others
merged (s ∷ slots) others = take_while (begins_before s) others
    ++ s ∷ merged slots (drop (prefix_len (begins_before s) others) others)

abbrev pub is_cell_of : (row : ℕ) → Cell × GridCell → Bool
is_cell_of row c = c.0.row == row

abbrev pub is_gap_of : (row : ℕ) → GridGap → Bool
is_gap_of row g = (g.row == row) && nat_lt g.first g.last

-- the cells and the gaps of a row
abbrev pub slots_of : List Cell → TheGrid → (row : ℕ) → List Slot
slots_of cells g row = merged (map cell_slot (filter (is_cell_of row) (zip cells g.cells)))
    (map gap_slot (filter (is_gap_of row) g.gaps))

-- the columns of a table, and the slots of each of its rows
pub record Table : Type 0 where
  pub columns : List Column
  pub rows : List (List Slot)

abbrev pub table_by : TheGrid → List Cell → (count : ℕ) → Table
table_by g cells count =
    record { columns = g.columns; rows = map (slots_of cells g) (range_with_len 1 count) }

abbrev pub no_table : Table
no_table = record { columns = []; rows = [] }

-- of so many rows, which are numbered from 1 on, with these cells
abbrev pub table : List Cell → (count : ℕ) → Table
table cells count = table_by (grid cells) cells count

-- ---- rows across

-- a row that has a cell with a column; any other is left out
abbrev pub is_shown : List Slot → Bool
is_shown slots = list_any (λ s. s.is_cell && has_columns s) slots

abbrev pub goes_on : Slot → Bool
goes_on s = nat_lt 1 s.rows && has_columns s

abbrev pub covered : Slot → Slot
covered s = record { first = s.first; last = s.last; rows = s.rows - 1; is_cell = false }

-- where cells of a row go on into the next
abbrev pub covered_after : List Slot → List Slot
covered_after slots = map covered (filter goes_on slots)

-- Rows across: after a row that is shown its cells go on, in places that are empty in the rows below.
abbrev pub across : (above : List Slot) → List (List Slot) → List (List Slot)
across above [] = []
across above (slots ∷ rows) =
    if is_shown slots then merged slots above ∷ across (covered_after (merged slots above)) rows
    else slots ∷ across above rows
