-- The cells of a row, taken one after another.
use Rattle.std.proofs.Common.{◌≡◌, ◌+◌, ◌<◌, ◌≤◌, [], ◌∷◌, ◌++◌, ◌∙◌, List, ap, arith, get_or, length, subst, sym, true}
use Rattle.std.proofs.Common.{ℕ}
use Rattle.std.specs.List.{zip}
use Rattle.std.specs.List.Sorted.{IsNonDecreasingBy}
use Rattle.std.proofs.lemmas.Bool.{eqb-true, eq-eqb}
use Rattle.std.proofs.lemmas.List.{get_or_default}
use Rattle.std.proofs.lemmas.Slice.Zip.{get_or-zip, length-zip}
use Rattle.table_grid.specs.declared.cell.Cell.{Cell}
use Rattle.table_grid.specs.declared.grid.GridCell.{GridCell}
use Rattle.table_widths.specs.declared.slot.Slot.{Slot}
use Rattle.table_widths.specs.RowParts.{HasRowsFrom, cells_in}
use Rattle.table_widths.specs.Slots.{cell_slot, is_cell_of}
use Rattle.table_widths.proofs.RowLemmas.{AreTaken, rows_skipped, taken_all, taken_first, taken_more}

abbrev pub row_of : Cell × GridCell → ℕ
row_of c = c.0.row

abbrev pub no_cell : Cell
no_cell = record { row = 0; colspan = 0; rowspan = 0; size = 0; least = 0 }

abbrev pub no_place : GridCell
no_place = record { first = 0; last = 0; rows = 0 }

abbrev neither : Cell × GridCell
neither = (no_cell, no_place)

abbrev pub AreCellsTaken : List Cell → List GridCell → (row at : ℕ) → List Slot → Type 0
AreCellsTaken cells placed row at slots = AreTaken row_of is_cell_of cell_slot (zip cells placed) row at slots

only_cell : (row : ℕ) (x : Cell × GridCell) → is_cell_of row x ≡ true → row_of x ≡ row
only_cell row x e = eqb-true x.0.row row e

module _ (cells : List Cell) (placed : List GridCell) (same : length placed ≡ length cells) where
  long : length (zip cells placed) ≡ length cells
  long = let n = length-zip cells placed in omega arith

  cell_at : (at : ℕ) → at < length cells →
      get_or (zip cells placed) at neither ≡ (get_or cells at no_cell, get_or placed at no_place)
  cell_at at lt = get_or-zip cells placed at neither lt (omega arith)

  row_at : (at : ℕ) (d : Cell × GridCell) → at < length cells →
      row_of (get_or (zip cells placed) at d) ≡ (get_or cells at no_cell).row
  row_at at d lt =
      let n = long in
      ap row_of (get_or_default (zip cells placed) at d neither (omega arith) ∙ cell_at at lt)

  rises : IsNonDecreasingBy (λ c. c.row) cells → IsNonDecreasingBy row_of (zip cells placed)
  rises h i j d le lt =
      let n = long in
      let a = row_at i d (omega arith) in
      let b = row_at j d (omega arith) in
      let less = h i j no_cell le (omega arith) in omega arith

  pub cells_skipped : (row at : ℕ) → at < length cells → (get_or cells at no_cell).row < row →
      HasRowsFrom is_cell_of (zip cells placed) row at → HasRowsFrom is_cell_of (zip cells placed) row (at + 1)
  cells_skipped row at lt less h =
      let n = long in
      let e = row_at at neither lt in
      rows_skipped row_of is_cell_of only_cell (zip cells placed) row at neither (omega arith) (omega arith) h

  pub cells_first : (row at : ℕ) → (at < length cells → row ≤ (get_or cells at no_cell).row) →
      HasRowsFrom is_cell_of (zip cells placed) row at → AreCellsTaken cells placed row at []
  cells_first row at reached h = taken_first row_of is_cell_of only_cell cell_slot (zip cells placed) row at h
      (λ d lt. let n = long in
      let e = row_at at d (omega arith) in
      let le = reached (omega arith) in omega arith)

  pub cells_more : (row at : ℕ) (slots : List Slot) → IsNonDecreasingBy (λ c. c.row) cells → at < length cells →
      (get_or cells at no_cell).row ≡ row → AreCellsTaken cells placed row at slots →
      AreCellsTaken cells placed row (at + 1)
      (slots ++ cell_slot (get_or cells at no_cell, get_or placed at no_place) ∷ [])
  cells_more row at slots h lt here taken =
      let n = long in
      subst (λ (c : Cell × GridCell). AreCellsTaken cells placed row (at + 1) (slots ++ cell_slot c ∷ []))
      (cell_at at lt)
      (taken_more row_of is_cell_of only_cell cell_slot (zip cells placed) row at slots neither (rises h) (omega arith)
      (eq-eqb (row_of (get_or (zip cells placed) at neither)) row (row_at at neither lt ∙ here)) taken)

  pub cells_all : (row at : ℕ) (slots : List Slot) → IsNonDecreasingBy (λ c. c.row) cells →
      (at < length cells → (get_or cells at no_cell).row ≡ row → ⊥) → AreCellsTaken cells placed row at slots →
      slots ≡ cells_in cells placed row
  cells_all row at slots h other taken =
      taken_all row_of is_cell_of only_cell cell_slot (zip cells placed) row at slots (rises h)
      (λ d lt e. let n = long in other (omega arith) (sym (row_at at d (omega arith)) ∙ e)) taken
