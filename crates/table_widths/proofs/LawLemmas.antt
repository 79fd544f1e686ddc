-- The rows of a table across are whole.
use Rattle.std.proofs.Common.{◌≡◌, ◌+◌, ◌<◌, ◌≤◌, ◌⊎◌, [], ◌∷◌, ◌∙◌, All, List, ap, arith, filter, get_or, length}
use Rattle.std.proofs.Common.{length-take, map, refl, subst, sym, take, true, ℕ}
use Rattle.std.specs.List.{AllPairs, range_with_len, zip}
use Rattle.std.specs.List.Sorted.{IsNonDecreasingBy}
use Rattle.std.proofs.lemmas.List.{get_or-map, get_or-take, length-map}
use Rattle.std.proofs.lemmas.List.Elements.{All-from_recursion}
use Rattle.table_grid.specs.declared.cell.Cell.{Cell}
use Rattle.table_grid.specs.declared.cell.PlacedCell.{PlacedCell}
use Rattle.table_grid.specs.PlaceLaws.{HasCellUpTo, HasGapUpTo, StandsIn, Takes, placed_at}
use Rattle.table_grid.specs.Places.{cell_of, right_of, ArePlaced}
use Rattle.table_grid.specs.declared.columns.Column.{Column}
use Rattle.table_grid.specs.declared.grid.GridCell.{GridCell}
use Rattle.table_grid.specs.declared.grid.GridGap.{GridGap}
use Rattle.table_grid.specs.Grid.{IsGrid, all_columns, rows_with_cells, spans_of}
use Rattle.table_grid.specs.TheGrid.{grid}
use Rattle.table_widths.specs.declared.slot.Slot.{Slot}
use Rattle.table_widths.specs.RowLaws.{AreWholeRows, IsWhole}
use Rattle.table_widths.specs.Slots.{across, cell_slot, gap_slot, is_cell_of, is_gap_of, is_shown, merged, table}
use Rattle.table_widths.proofs.AcrossLemmas.{none_above, rows_are_whole}
use Rattle.table_widths.proofs.LeftLemmas.{left_at, left_begins, left_rises, left_within}
use Rattle.table_widths.proofs.PageLemmas.{IsPage, nobody}
use Rattle.table_widths.proofs.SlotLemmas.{empty_slots, own_slots}
use Rattle.table_widths.proofs.TableLemmas.{gaps_same, own_same, shown_all, shown_rise, shown_some}

-- what the laws of places say
abbrev pub ShareNoSlot : Type 0
ShareNoSlot = (cells : List Cell) (placed : List PlacedCell) → IsNonDecreasingBy (λ c. c.row) cells →
    ArePlaced cells placed → (j k row column : ℕ) → j < k → k < length placed → StandsIn row (placed_at placed j) →
    StandsIn row (placed_at placed k) → Takes column (placed_at placed j) → Takes column (placed_at placed k) → ⊥

abbrev pub HaveNoHole : Type 0
HaveNoHole = (cells : List Cell) (placed : List PlacedCell) → IsNonDecreasingBy (λ c. c.row) cells →
    All (λ c. 0 < c.colspan) cells → All (λ c. 0 < c.rowspan) cells → ArePlaced cells placed → (k row column : ℕ) →
    k < length placed → StandsIn row (placed_at placed k) → column + 1 ≡ (placed_at placed k).left →
    HasCellUpTo placed row (column + 1) ⊎ HasGapUpTo placed row (column + 1)

all_cells : (P : Cell → Type 0) (placed : List PlacedCell) → All P (map cell_of placed) → All (λ p. P p.cell) placed
all_cells P placed all k d lt = subst P (get_or-map cell_of placed k d d.cell lt)
    (all k d.cell (let n = length-map placed cell_of in omega arith))

rows_rise : (placed : List PlacedCell) → IsNonDecreasingBy (λ c. c.row) (map cell_of placed) →
    AllPairs (λ p q. p.cell.row ≤ q.cell.row) placed
rows_rise placed h i j d lt j_lt =
    let n = length-map placed cell_of in
    let le = h i j d.cell (omega arith) (omega arith) in
    let a = get_or-map cell_of placed i d d.cell (omega arith) in
    let b = get_or-map cell_of placed j d d.cell j_lt in
    subst (λ (c : Cell). (get_or placed i d).cell.row ≤ c.row) b
    (subst (λ (c : Cell). c.row ≤ (get_or (map cell_of placed) j d.cell).row) a le)

-- cells of a row stand one after another
side_by_side : (cells : List Cell) (placed : List PlacedCell) → ArePlaced cells placed →
    AllPairs (λ p q. p.cell.row ≡ q.cell.row → right_of p ≤ q.left) placed
side_by_side cells placed h i j d lt j_lt same =
    let before : get_or (take j placed) i d ≡ get_or placed i d = get_or-take j placed i d lt in
    subst (λ (p : PlacedCell). right_of p ≤ (get_or placed j d).left) before
    ((h.each j d j_lt).fits.trailing i d (let n = length-take j placed in omega arith)
    (ap (λ (p : PlacedCell). p.cell.row) before ∙ same))

map_same : {X Y : Type 0} (f g : X → Y) → ((x : X) → f x ≡ g x) → (xs : List X) → map f xs ≡ map g xs
map_same f g by [] = refl
map_same f g by (x ∷ xs) = ap (λ y. y ∷ map f xs) (by x) ∙ ap (λ ys. g x ∷ ys) (map_same f g by xs)

module _ (cells : List Cell) (columns : List Column) (grid_cells : List GridCell) (gaps : List GridGap)
    (h : IsGrid cells columns grid_cells gaps) where
  abbrev kept : List Column
  kept = all_columns h.placed h.edges

  abbrev left : ℕ → ℕ
  left = left_at h.edges kept

  abbrev shown : List ℕ
  shown = rows_with_cells (spans_of h.placed h.edges)

  cells_all : (P : Cell → Type 0) → All P cells → All (λ p. P p.cell) h.placed
  cells_all P all = all_cells P h.placed (subst (All P) (sym h.are_placed.same) all)

  in_rows : IsNonDecreasingBy (λ c. c.row) cells → AllPairs (λ p q. p.cell.row ≤ q.cell.row) h.placed
  in_rows rows = rows_rise h.placed (subst (IsNonDecreasingBy (λ c. c.row)) (sym h.are_placed.same) rows)

  pub page_of : ShareNoSlot → HaveNoHole → IsNonDecreasingBy (λ c. c.row) cells → All (λ c. 0 < c.colspan) cells →
      All (λ c. 0 < c.rowspan) cells → IsPage h.placed h.between left shown (length columns)
  page_of share hole rows some tall = record {
    rises = left_rises h.edges kept;
    begins = left_begins h.edges kept;
    within = λ a. subst (λ (xs : List Column). left a ≤ length xs) (sym h.columns_are) (left_within h.edges kept a);
    some = cells_all (λ c. 0 < c.colspan) some;
    tall = cells_all (λ c. 0 < c.rowspan) tall;
    in_row = side_by_side cells h.placed h.are_placed;
    apart = share cells h.placed rows h.are_placed;
    holes = hole cells h.placed rows some tall h.are_placed;
    gaps = h.are_gaps;
    rows = shown_rise h.placed h.edges kept (in_rows rows);
    shown_some = shown_some h.placed h.edges kept;
    shown_all = shown_all h.placed h.edges kept;
  }

  pub slots_same : (row : ℕ) →
      merged (map cell_slot (filter (is_cell_of row) (zip cells grid_cells)))
      (map gap_slot (filter (is_gap_of row) gaps))
      ≡ merged (own_slots h.placed left shown row) (empty_slots h.between left row)
  slots_same row =
      ap (λ (cs : List Cell). merged (map cell_slot (filter (is_cell_of row) (zip cs grid_cells)))
      (map gap_slot (filter (is_gap_of row) gaps))) (sym h.are_placed.same)
      ∙ ap (λ (gs : List GridCell). merged (map cell_slot (filter (is_cell_of row) (zip (map cell_of h.placed) gs)))
      (map gap_slot (filter (is_gap_of row) gaps))) h.cells_are
      ∙ ap (λ (slots : List Slot). merged slots (map gap_slot (filter (is_gap_of row) gaps)))
      (own_same h.edges kept shown row h.placed)
      ∙ ap (λ (gs : List GridGap). merged (own_slots h.placed left shown row)
      (map gap_slot (filter (is_gap_of row) gs))) h.gaps_are
      ∙ ap (merged (own_slots h.placed left shown row)) (gaps_same h.edges kept shown row h.between)

  pub across_whole : ShareNoSlot → HaveNoHole → IsNonDecreasingBy (λ c. c.row) cells →
      All (λ c. 0 < c.colspan) cells → All (λ c. 0 < c.rowspan) cells → All (λ c. 0 < c.row) cells → (count : ℕ) →
      All (λ slots. is_shown slots ≡ true → IsWhole (length columns) slots)
      (across []
      (map (λ row. merged (map cell_slot (filter (is_cell_of row) (zip cells grid_cells)))
      (map gap_slot (filter (is_gap_of row) gaps))) (range_with_len 1 count)))
  across_whole share hole rows some tall first count =
      subst (λ (rows : List (List Slot)). All (λ slots. is_shown slots ≡ true → IsWhole (length columns) slots)
      (across [] rows))
      (sym (map_same (λ row. merged (map cell_slot (filter (is_cell_of row) (zip cells grid_cells)))
      (map gap_slot (filter (is_gap_of row) gaps)))
      (λ row. merged (own_slots h.placed left shown row) (empty_slots h.between left row)) slots_same
      (range_with_len 1 count)))
      (All-from_recursion (λ slots. is_shown slots ≡ true → IsWhole (length columns) slots)
      (across []
      (map (λ row. merged (own_slots h.placed left shown row) (empty_slots h.between left row))
      (range_with_len 1 count)))
      (rows_are_whole h.placed h.between left shown (length columns) page count 1 []
      (none_above h.placed h.between left shown (length columns) page 1
      (λ k lt. let f = cells_all (λ c. 0 < c.row) first k nobody lt in omega arith))))
    where
      page : IsPage h.placed h.between left shown (length columns)
      page = page_of share hole rows some tall

pub table_whole : ((cells : List Cell) → IsNonDecreasingBy (λ c. c.row) cells →
    IsGrid cells (grid cells).columns (grid cells).cells (grid cells).gaps) → ShareNoSlot → HaveNoHole →
    (cells : List Cell) (count : ℕ) → IsNonDecreasingBy (λ c. c.row) cells → All (λ c. 0 < c.colspan) cells →
    All (λ c. 0 < c.rowspan) cells → All (λ c. 0 < c.row) cells → AreWholeRows (table cells count)
table_whole have share hole cells count rows some tall first =
    across_whole cells (grid cells).columns (grid cells).cells (grid cells).gaps (have cells rows) share hole rows some
    tall first count
