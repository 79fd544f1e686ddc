-- What the functions say that form one row after another.
use Rattle.std.specs.Prelude.{◌≡◌, ℕ, ◌≤◌, Bool, List, drop, filter, map}
use Rattle.std.specs.List.{zip}
use Rattle.table_grid.specs.declared.cell.Cell.{Cell}
use Rattle.table_grid.specs.declared.grid.GridCell.{GridCell}
use Rattle.table_grid.specs.declared.grid.GridGap.{GridGap}
use Rattle.table_widths.specs.Slots.{cell_slot, gap_slot, is_cell_of, is_gap_of, merged}
use Rattle.table_widths.specs.declared.slot.Slot.{Slot}

-- the cells of a row, and its gaps
abbrev pub cells_in : List Cell → List GridCell → (row : ℕ) → List Slot
cells_in cells placed row = map cell_slot (filter (is_cell_of row) (zip cells placed))

abbrev pub gaps_in : List GridGap → (row : ℕ) → List Slot
gaps_in gaps row = map gap_slot (filter (is_gap_of row) gaps)

abbrev pub slots_in : List Cell → List GridCell → List GridGap → (row : ℕ) → List Slot
slots_in cells placed gaps row = merged (cells_in cells placed row) (gaps_in gaps row)

-- Nothing of a row, nor of those after it, stands before a place.
pub record HasRowsFrom {X : Type 0} (is_of : ℕ → X → Bool) (xs : List X) (row at : ℕ) : Type 0 where
  pub all : (later : ℕ) → row ≤ later → filter (is_of later) (drop at xs) ≡ filter (is_of later) xs
