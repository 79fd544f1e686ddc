-- The rows of a table, formed one after another.
use Rattle.std.proofs.Common.{◌≡◌, ◌+◌, ◌<◌, ◌≤◌, [], ◌∷◌, ◌++◌, ◌∙◌, ◌⊎◌, Global, List, Vec, ap, arith, get_or, inl}
use Rattle.std.proofs.Common.{inr, length, map, refl, subst, sym, ℕ}
use Rattle.std.specs.List.{AllPairs, range_with_len, zip}
use Rattle.std.specs.List.Sorted.{IsNonDecreasingBy}
use Rattle.std.proofs.lemmas.Bool.{cases_lt}
use Rattle.std.proofs.lemmas.List.{get_or-map, length-map, length_push, map_push}
use Rattle.std.proofs.lemmas.List.FromFn.{map-range_with_len_more}
use Rattle.table_grid.specs.Gaps.{IsBefore}
use Rattle.table_grid.specs.Places.{cell_of}
use Rattle.table_grid.specs.declared.cell.Cell.{Cell}
use Rattle.table_grid.specs.declared.gaps.Gap.{Gap}
use Rattle.table_grid.specs.Grid.{IsGrid, all_columns, gap_left, grid_cell, rows_with_cells, span_in, span_left}
use Rattle.table_grid.specs.Grid.{spans_of}
use Rattle.table_grid.specs.TheGrid.{TheGrid}
use Rattle.table_grid.specs.declared.columns.Column.{Column}
use Rattle.table_grid.specs.declared.edges.SpannedCell.{SpannedCell}
use Rattle.table_grid.specs.declared.grid.GridCell.{GridCell}
use Rattle.table_grid.specs.declared.grid.GridGap.{GridGap}
use Rattle.table_widths.specs.RowParts.{HasRowsFrom, cells_in, gaps_in, slots_in}
use Rattle.table_widths.specs.Slots.{Table, is_cell_of, is_gap_of, merged, table_by}
use Rattle.table_widths.specs.Tables.{rows_seen}
use Rattle.table_widths.specs.declared.slot.Slot.{Slot}

-- The first rows are formed, and nothing of the others stands before two places.
pub record AreFormed (cells : List Cell) (placed : List GridCell) (gaps : List GridGap) (count cell gap : ℕ)
    (rows : List (Vec Slot Global)) : Type 0 where
  pub formed : rows_seen rows ≡ map (slots_in cells placed gaps) (range_with_len 1 (length rows))
  pub within : length rows ≤ count
  pub cells_left : HasRowsFrom is_cell_of (zip cells placed) (length rows + 1) cell
  pub gaps_left : HasRowsFrom is_gap_of gaps (length rows + 1) gap

pub formed_first : (cells : List Cell) (placed : List GridCell) (gaps : List GridGap) (count : ℕ) →
    AreFormed cells placed gaps count 0 0 []
formed_first cells placed gaps count = record {
  formed = refl;
  within = omega arith;
  cells_left = record { all = λ later le. refl };
  gaps_left = record { all = λ later le. refl };
}

pub formed_more : (cells : List Cell) (placed : List GridCell) (gaps : List GridGap) (count cell gap trailing after : ℕ)
    (row : ℕ) (rows : List (Vec Slot Global)) (own empty : List Slot) (slots : Vec Slot Global) →
    length rows < count → length rows + 1 ≡ row → AreFormed cells placed gaps count cell gap rows →
    own ≡ cells_in cells placed row → empty ≡ gaps_in gaps row → slots.items ≡ merged own empty →
    HasRowsFrom is_cell_of (zip cells placed) (row + 1) trailing → HasRowsFrom is_gap_of gaps (row + 1) after →
    AreFormed cells placed gaps count trailing after (rows ++ slots ∷ [])
formed_more cells placed gaps count cell gap trailing after row rows own empty slots lt is h own_is empty_is slots_are
    cells_left gaps_left =
    let n : length (rows ++ slots ∷ []) ≡ length rows + 1 = length_push rows slots in
    let here : 1 + length rows ≡ row = omega arith in
    record {
      formed = map_push (λ (v : Vec Slot Global). v.items) rows slots
          ∙ ap (λ (xs : List (List Slot)). xs ++ slots.items ∷ []) h.formed
          ∙ ap (λ (xs : List Slot). map (slots_in cells placed gaps) (range_with_len 1 (length rows)) ++ xs ∷ [])
          (slots_are ∙ ap (λ (xs : List Slot). merged xs empty) own_is
          ∙ ap (merged (cells_in cells placed row)) empty_is)
          ∙ sym (map-range_with_len_more (slots_in cells placed gaps) 1 (length rows) row here)
          ∙ ap (λ (k : ℕ). map (slots_in cells placed gaps) (range_with_len 1 k)) (sym n);
      within = omega arith;
      cells_left = record { all = λ later le. cells_left.all later (omega arith) };
      gaps_left = record { all = λ later le. gaps_left.all later (omega arith) };
    }

pub formed_all : (cells : List Cell) (placed : List GridCell) (gaps : List GridGap) (count cell gap : ℕ)
    (rows : List (Vec Slot Global)) → count ≤ length rows → AreFormed cells placed gaps count cell gap rows →
    rows_seen rows ≡ map (slots_in cells placed gaps) (range_with_len 1 count)
formed_all cells placed gaps count cell gap rows le h =
    let w = h.within in
    let n : length rows ≡ count = omega arith in
    h.formed ∙ ap (λ (k : ℕ). map (slots_in cells placed gaps) (range_with_len 1 k)) n

-- ---- the grid

-- each cell has its place
pub places_are : (cells : List Cell) (columns : List Column) (placed : List GridCell) (gaps : List GridGap) →
    IsGrid cells columns placed gaps → length placed ≡ length cells
places_are cells columns placed gaps h =
    let spanned : List SpannedCell = map (span_in h.edges) h.placed in
    let spans : List SpannedCell = spans_of h.placed h.edges in
    ap (λ (xs : List GridCell). length xs) h.cells_are ∙ length-map spans (grid_cell (rows_with_cells spans))
    ∙ length-map spanned (span_left (all_columns h.placed h.edges)) ∙ length-map h.placed (span_in h.edges)
    ∙ sym (length-map h.placed cell_of) ∙ ap (λ (xs : List Cell). length xs) h.are_placed.same

-- the rows of gaps don't fall
row_before : (g h : Gap) → IsBefore g h → g.row ≤ h.row
row_before g h (inl lt) = omega arith
row_before g h (inr same) = let e = same.0 in omega arith

between_rise : (between : List Gap) → AllPairs IsBefore between → IsNonDecreasingBy (λ g. g.row) between
between_rise between order i j d le lt = by (cases_lt i j)
  where
    by : (i < j) ⊎ (j ≤ i) → (get_or between i d).row ≤ (get_or between j d).row
    by (inl less) = row_before (get_or between i d) (get_or between j d) (order i j d less lt)
    by (inr back) =
        let e : i ≡ j = omega arith in
        subst (λ (k : ℕ). (get_or between i d).row ≤ (get_or between k d).row) e (omega arith)

left_rise : (edges : List ℕ) (columns : List Column) (between : List Gap) →
    IsNonDecreasingBy (λ g. g.row) between → IsNonDecreasingBy (λ g. g.row) (map (gap_left edges columns) between)
left_rise edges columns between rises i j d le lt =
    let none : Gap = record { row = 0; left = 0; right = 0 } in
    let n = length-map between (gap_left edges columns) in
    let a : (get_or (map (gap_left edges columns) between) i d).row ≡ (get_or between i none).row =
    ap (λ (g : GridGap). g.row) (get_or-map (gap_left edges columns) between i none d (omega arith)) in
    let b : (get_or (map (gap_left edges columns) between) j d).row ≡ (get_or between j none).row =
    ap (λ (g : GridGap). g.row) (get_or-map (gap_left edges columns) between j none d (omega arith)) in
    let less = rises i j none le (omega arith) in omega arith

pub gaps_rise : (cells : List Cell) (columns : List Column) (placed : List GridCell) (gaps : List GridGap) →
    IsGrid cells columns placed gaps → IsNonDecreasingBy (λ g. g.row) gaps
gaps_rise cells columns placed gaps h =
    subst (IsNonDecreasingBy (λ g. g.row)) (sym h.gaps_are)
    (left_rise h.edges (all_columns h.placed h.edges) h.between (between_rise h.between h.are_gaps.order))

abbrev a_table : List Column → List (List Slot) → Table
a_table columns rows = record { columns = columns; rows = rows }

pub table_is : (cells : List Cell) (g : TheGrid) (count : ℕ) (columns : List Column) (placed : List GridCell)
    (gaps : List GridGap) (rows : List (List Slot)) → columns ≡ g.columns → placed ≡ g.cells → gaps ≡ g.gaps →
    rows ≡ map (slots_in cells placed gaps) (range_with_len 1 count) →
    a_table columns rows ≡ table_by g cells count
table_is cells g count columns placed gaps rows columns_are placed_are gaps_are rows_are =
    let numbers : List ℕ = range_with_len 1 count in
    let same : rows ≡ map (slots_in cells g.cells g.gaps) numbers =
    rows_are ∙ ap (λ (xs : List GridCell). map (slots_in cells xs gaps) numbers) placed_are
    ∙ ap (λ (xs : List GridGap). map (slots_in cells g.cells xs) numbers) gaps_are in
    ap (λ (xs : List Column). a_table xs rows) columns_are ∙ ap (a_table g.columns) same
