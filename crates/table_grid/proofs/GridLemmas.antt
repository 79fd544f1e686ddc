-- The steps of a grid put together.
use Rattle.std.proofs.Common.{◌≡◌, ◌+◌, ◌-◌, ◌<◌, ◌≤◌, ◌∙◌, All, Bool, Contains, List, ap, arith, false, filter, get_or}
use Rattle.std.proofs.Common.{length, map, nat_lt, refl, rules, subst, sym, true, ℕ}
use Rattle.std.specs.List.Sorted.{IsStrictlyIncreasing, IsSorted, IsNonDecreasingBy}
use Rattle.std.specs.Ordering.{nat_cmp, is_lt}
use Rattle.std.proofs.lemmas.Bool.Decides.{nat_tests}
use Rattle.std.proofs.lemmas.List.{get_or-map, length-map}
use Rattle.std.proofs.lemmas.List.Elements.{All-map, Contains-get_or, Contains-append_left, Contains-append_right}
use Rattle.std.proofs.lemmas.List.Kept.{IsNonDecreasingBy-filter}
use Rattle.std.proofs.lemmas.Map.Keys.{IsStrictlyIncreasing-dedup}
use Rattle.table_grid.specs.declared.cell.Cell.{Cell}
use Rattle.table_grid.specs.declared.cell.PlacedCell.{PlacedCell}
use Rattle.table_grid.specs.Places.{cell_of, left_of, right_of, ArePlaced}
use Rattle.table_grid.specs.declared.edges.SpannedCell.{SpannedCell}
use Rattle.table_grid.specs.declared.columns.Column.{Column}
use Rattle.table_grid.specs.declared.grid.GridCell.{GridCell}
use Rattle.table_grid.specs.declared.grid.GridGap.{GridGap}
use Rattle.table_grid.specs.declared.gaps.Gap.{Gap}
use Rattle.table_grid.specs.Gaps.{IsGap, AreGaps}
use Rattle.table_grid.specs.Grid.{AreEdges, IsGrid, columns_between, gap_left, grid_cell, has_column, has_size, rank}
use Rattle.table_grid.specs.Grid.{row_of, rows_with_cells, span_in, span_left}
use Rattle.table_grid.proofs.RankLemmas.{rank_less, rank_within, rank_rises}

map_contains : {X : Type 0} (f : X → ℕ) (xs : List X) (k : ℕ) (d : X) → k < length xs →
    Contains (map f xs) (f (get_or xs k d))
map_contains f xs k d lt = subst (Contains (map f xs)) (get_or-map f xs k d 0 lt)
    (Contains-get_or (map f xs) k 0 (let n = length-map xs f in omega arith))

-- a cell's edges are among the edges
left_in : (placed : List PlacedCell) (edges : List ℕ) (k : ℕ) (d : PlacedCell) → AreEdges placed edges →
    k < length placed → Contains edges (get_or placed k d).left
left_in placed edges k d h lt = h.all (get_or placed k d).left
    (Contains-append_left (map left_of placed) (map right_of placed) (get_or placed k d).left
    (map_contains left_of placed k d lt))

right_in : (placed : List PlacedCell) (edges : List ℕ) (k : ℕ) (d : PlacedCell) → AreEdges placed edges →
    k < length placed → Contains edges (right_of (get_or placed k d))
right_in placed edges k d h lt = h.all (right_of (get_or placed k d))
    (Contains-append_right (map left_of placed) (map right_of placed) (right_of (get_or placed k d))
    (map_contains right_of placed k d lt))

cell_some : (cells : List Cell) (placed : List PlacedCell) (k : ℕ) (d : PlacedCell) → ArePlaced cells placed →
    All (λ c. 0 < c.colspan) cells → k < length placed → 0 < (get_or placed k d).cell.colspan
cell_some cells placed k d h some lt =
    let n : length cells ≡ length placed = ap (λ (xs : List Cell). length xs) (sym h.same)
    ∙ length-map placed cell_of in
    let e : get_or cells k d.cell ≡ (get_or placed k d).cell =
    ap (λ (xs : List Cell). get_or xs k d.cell) (sym h.same) ∙ get_or-map cell_of placed k d d.cell lt in
    subst (λ (c : Cell). 0 < c.colspan) e (some k d.cell (omega arith))

pub spanned_some : (cells : List Cell) (placed : List PlacedCell) (edges : List ℕ) → ArePlaced cells placed →
    All (λ c. 0 < c.colspan) cells → AreEdges placed edges →
    All (λ s. s.first < s.last) (map (span_in edges) placed)
spanned_some cells placed edges h some e = All-map (λ s. s.first < s.last) (span_in edges) placed
    (λ k d lt. let c = cell_some cells placed k d h some lt in
    rank_less edges (get_or placed k d).left (right_of (get_or placed k d)) e.rising (left_in placed edges k d e lt)
    (right_in placed edges k d e lt) (omega arith))

pub spanned_within : (placed : List PlacedCell) (edges : List ℕ) → AreEdges placed edges →
    All (λ s. s.last ≤ length edges - 1) (map (span_in edges) placed)
spanned_within placed edges e = All-map (λ s. s.last ≤ length edges - 1) (span_in edges) placed
    (λ k d lt. let w = rank_within edges (right_of (get_or placed k d)) e.rising (right_in placed edges k d e lt) in
    omega arith)

map_rises : {X Y : Type 0} (f : X → Y) (n : Y → ℕ) (xs : List X) (e : X) → IsNonDecreasingBy (λ x. n (f x)) xs →
    IsNonDecreasingBy n (map f xs)
map_rises f n xs e h i j d le lt =
    let m = length-map xs f in
    rw (get_or-map f xs i e d (omega arith), get_or-map f xs j e d (omega arith)) (h i j e le (omega arith))

pub map_rose : {X Y : Type 0} (f : X → Y) (n : Y → ℕ) (xs : List X) → IsNonDecreasingBy n (map f xs) →
    IsNonDecreasingBy (λ x. n (f x)) xs
map_rose f n xs h i j d le lt =
    let m = length-map xs f in
    rw (sym (get_or-map f xs i d (f d) (omega arith)), sym (get_or-map f xs j d (f d) (omega arith)))
    (h i j (f d) le (omega arith))

not_less : (x y : ℕ) → y ≤ x → is_lt (nat_cmp x y) ≡ false
not_less x y le = search rules

sorted_rows : (xs : List SpannedCell) → IsNonDecreasingBy row_of xs → IsSorted nat_cmp (map row_of xs)
sorted_rows xs h k d from lt =
    let n = length-map xs row_of in
    let e : SpannedCell =
    record { cell = record { row = 0; colspan = 0; rowspan = 0; size = 0; least = 0 }; first = 0; last = 0 } in
    rw (get_or-map row_of xs (k + 1) e d (omega arith), get_or-map row_of xs k e d (omega arith))
    (not_less (get_or xs (k + 1) e).cell.row (get_or xs k e).cell.row (h k (k + 1) e (omega arith) (omega arith)))

pub rows_rise : (cells : List Cell) (placed : List PlacedCell) (edges : List ℕ) (columns : List Column) →
    ArePlaced cells placed → IsNonDecreasingBy (λ c. c.row) cells →
    IsStrictlyIncreasing (rows_with_cells (map (span_left columns) (map (span_in edges) placed)))
rows_rise cells placed edges columns h rows =
    let no_place : PlacedCell =
    record { cell = record { row = 0; colspan = 0; rowspan = 0; size = 0; least = 0 }; left = 0 } in
    let no_span : SpannedCell =
    record { cell = record { row = 0; colspan = 0; rowspan = 0; size = 0; least = 0 }; first = 0; last = 0 } in
    let placed_rows : IsNonDecreasingBy (λ p. p.cell.row) placed =
    map_rose cell_of (λ c. c.row) placed (subst (IsNonDecreasingBy (λ c. c.row)) (sym h.same) rows) in
    let spanned_rows : IsNonDecreasingBy row_of (map (span_in edges) placed) =
    map_rises (span_in edges) row_of placed no_place placed_rows in
    let left_rows : IsNonDecreasingBy row_of (map (span_left columns) (map (span_in edges) placed)) =
    map_rises (span_left columns) row_of (map (span_in edges) placed) no_span spanned_rows in
    IsStrictlyIncreasing-dedup (map row_of (filter has_column (map (span_left columns) (map (span_in edges) placed))))
    (sorted_rows (filter has_column (map (span_left columns) (map (span_in edges) placed)))
    (IsNonDecreasingBy-filter row_of has_column (map (span_left columns) (map (span_in edges) placed)) left_rows))

-- a gap ends before the last edge
gap_within : (placed : List PlacedCell) (edges : List ℕ) (row left right : ℕ) → AreEdges placed edges →
    IsGap placed row left right → rank edges right ≤ length edges - 1
gap_within placed edges row left right e g = by (nat_lt (rank edges right) (length edges)) refl
  where
    by : (b : Bool) → nat_lt (rank edges right) (length edges) ≡ b → rank edges right ≤ length edges - 1
    by true t = grind (arith, nat_tests)
    by false t =
        let full : length edges ≤ rank edges right = grind (arith, nat_tests) in
        absurd (g.ends (record {
          free = λ k d lt above reach from to.
              let w = rank_within edges (right_of (get_or placed k d)) e.rising (right_in placed edges k d e lt) in
              let r = rank_rises edges right (right_of (get_or placed k d)) (omega arith) in omega arith;
        }))

pub gaps_right : (placed : List PlacedCell) (edges : List ℕ) (gaps : List Gap) → AreEdges placed edges →
    AreGaps placed gaps → All (λ g. rank edges g.right ≤ length edges - 1) gaps
gaps_right placed edges gaps e h k d lt =
    gap_within placed edges (get_or gaps k d).row (get_or gaps k d).left (get_or gaps k d).right e (h.each k d lt)

pub gaps_left_within : (placed : List PlacedCell) (edges : List ℕ) (gaps : List Gap) → AreEdges placed edges →
    AreGaps placed gaps → All (λ g. rank edges g.left ≤ length edges - 1) gaps
gaps_left_within placed edges gaps e h k d lt =
    let w = gaps_right placed edges gaps e h k d lt in
    let some = (h.each k d lt).some in
    let r = rank_rises edges (get_or gaps k d).left (get_or gaps k d).right (omega arith) in omega arith

pub put_together : (cells : List Cell) (placed : List PlacedCell) (edges : List ℕ) (spanned : List SpannedCell)
    (columns : List Column) (spans : List SpannedCell) (rows : List ℕ) (grid : List GridCell) (kept : List Column)
    (between : List Gap) (gaps : List GridGap) →
    ArePlaced cells placed → AreEdges placed edges → AreGaps placed between → spanned ≡ map (span_in edges) placed →
    columns ≡ columns_between (map (span_in edges) placed) (length edges - 1) →
    spans ≡ map (span_left columns) spanned → rows ≡ rows_with_cells spans → grid ≡ map (grid_cell rows) spans →
    kept ≡ filter has_size columns → gaps ≡ map (gap_left edges columns) between → IsGrid cells kept grid gaps
put_together cells placed edges spanned columns spans rows grid kept between gaps are_placed are_edges are_gaps
    spanned_are columns_are spans_are rows_are grid_are kept_are gaps_are = record {
      placed = placed;
      edges = edges;
      are_placed = are_placed;
      are_edges = are_edges;
      between = between;
      are_gaps = are_gaps;
      gaps_are = gaps_are ∙ ap (λ (xs : List Column). map (gap_left edges xs) between) columns_are;
      columns_are = kept_are ∙ ap (filter has_size) columns_are;
      cells_are =
          let left : spans ≡ map (span_left (columns_between (map (span_in edges) placed) (length edges - 1)))
          (map (span_in edges) placed) =
          spans_are ∙ ap (λ (xs : List Column). map (span_left xs) spanned) columns_are
          ∙ ap (map (span_left (columns_between (map (span_in edges) placed) (length edges - 1)))) spanned_are in
          grid_are ∙ ap (λ (xs : List ℕ). map (grid_cell xs) spans) rows_are
          ∙ ap (λ (xs : List SpannedCell). map (grid_cell (rows_with_cells xs)) xs) left;
    }
