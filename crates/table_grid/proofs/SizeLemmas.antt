-- A column asks for no more at least than in all.
use Rattle.std.proofs.Common.{◌≡◌, ◌+◌, ◌-◌, ◌*◌, ◌/◌, ◌<◌, ◌≤◌, [], ◌∷◌, ◌∙◌, All, Bool, List, ap, arith, cond, false}
use Rattle.std.proofs.Common.{filter, get_or, length, map, max, nat_lt, refl, subst, sym, true, ℕ}
use Rattle.std.specs.List.{range_with_len}
use Rattle.std.proofs.Math.Nat.{mul-le-mul_left, mul-div-le, lt-mul-div-succ}
use Rattle.std.proofs.lemmas.Bool.Decides.{nat_tests}
use Rattle.std.proofs.lemmas.List.{get_or-map, length-map}
use Rattle.std.proofs.lemmas.List.Elements.{All-map, All-head, All-tail, All-filter, filter_passes, All-weaker}
use Rattle.table_grid.specs.Columns.{covers, value_of, greatest, greatest_at}
use Rattle.table_grid.specs.declared.cell.Cell.{Cell}
use Rattle.table_grid.specs.declared.cell.PlacedCell.{PlacedCell}
use Rattle.table_grid.specs.Places.{cell_of, ArePlaced}
use Rattle.table_grid.specs.declared.edges.SpannedCell.{SpannedCell}
use Rattle.table_grid.specs.declared.columns.Column.{Column}
use Rattle.table_grid.specs.declared.grid.GridCell.{GridCell}
use Rattle.table_grid.specs.declared.grid.GridGap.{GridGap}
use Rattle.table_grid.specs.Grid.{IsGrid, all_columns, column_at, has_size, least_part, size_part, span_in}
use Rattle.table_grid.proofs.GridLemmas.{spanned_some}

div_rises : (a b k : ℕ) → 0 < k → a ≤ b → a / k ≤ b / k
div_rises a b k some le = by (nat_lt (b / k) (a / k)) refl
  where
    by : (t : Bool) → nat_lt (b / k) (a / k) ≡ t → a / k ≤ b / k
    by true e =
        let lt : b / k < a / k = grind (arith, nat_tests) in
        let up : k * (b / k + 1) ≤ k * (a / k) = mul-le-mul_left k (omega arith) in
        let low : k * (a / k) ≤ a = mul-div-le a k in
        let over : b < k * (b / k + 1) = lt-mul-div-succ b some in
        absurd (omega arith)
    by false e = grind (arith, nat_tests)

both_rise : (x y s t : ℕ) → x ≤ y → s ≤ t → max x s ≤ max y t
both_rise x y s t le more = omega arith

parts_less : (cells : List SpannedCell) (column : ℕ) → All (λ s. s.first < s.last) cells →
    All (λ s. s.cell.least ≤ s.cell.size) cells →
    greatest_at (map least_part cells) column ≤ greatest_at (map size_part cells) column
unfolding greatest_at greatest
parts_less [] column some less = omega arith
parts_less (s ∷ cells) column some less =
    by (covers column (size_part s))
    (parts_less cells column (All-tail (λ s. s.first < s.last) s cells some)
    (All-tail (λ s. s.cell.least ≤ s.cell.size) s cells less))
    (let lt = All-head (λ s. s.first < s.last) s cells some in
    div_rises s.cell.least s.cell.size (s.last - s.first) (omega arith)
    (All-head (λ s. s.cell.least ≤ s.cell.size) s cells less))
  where
    by : (b : Bool) → greatest (map value_of (filter (covers column) (map least_part cells)))
        ≤ greatest (map value_of (filter (covers column) (map size_part cells))) →
        s.cell.least / (s.last - s.first) ≤ s.cell.size / (s.last - s.first) →
        greatest
        (map value_of (cond b (least_part s ∷ filter (covers column) (map least_part cells))
        (filter (covers column) (map least_part cells)))) ≤
        greatest
        (map value_of (cond b (size_part s ∷ filter (covers column) (map size_part cells))
        (filter (covers column) (map size_part cells))))
    by true rest here = both_rise (s.cell.least / (s.last - s.first)) (s.cell.size / (s.last - s.first))
        (greatest (map value_of (filter (covers column) (map least_part cells))))
        (greatest (map value_of (filter (covers column) (map size_part cells)))) here rest
    by false rest here = rest

cells_all : (P : Cell → Type 0) → (cells : List Cell) (placed : List PlacedCell) → ArePlaced cells placed →
    All P cells → All (λ p. P p.cell) placed
cells_all P cells placed h all k d lt =
    let n : length cells ≡ length placed = ap (λ (xs : List Cell). length xs) (sym h.same)
    ∙ length-map placed cell_of in
    let e : get_or cells k d.cell ≡ (get_or placed k d).cell =
    ap (λ (xs : List Cell). get_or xs k d.cell) (sym h.same) ∙ get_or-map cell_of placed k d d.cell lt in
    subst P e (all k d.cell (omega arith))

-- of a grid of content that asks for no more at least than in all, the columns have a size and ask so too
pub grid_sized : (cells : List Cell) (columns : List Column) (grid : List GridCell) (gaps : List GridGap) →
    All (λ c. 0 < c.colspan) cells → All (λ c. c.least ≤ c.size) cells →
    IsGrid cells columns grid gaps → All (λ c. 0 < c.size) columns × All (λ c. c.least ≤ c.size) columns
grid_sized cells columns grid gaps some less h = (
  subst (All (λ c. 0 < c.size)) (sym h.columns_are)
      (All-weaker (λ c. has_size c ≡ true) (λ c. 0 < c.size) (λ c e. grind (arith, nat_tests)) (filter has_size all)
      (filter_passes has_size all)),
  subst (All (λ c. c.least ≤ c.size)) (sym h.columns_are) (All-filter has_size (λ c. c.least ≤ c.size) all
      (All-map (λ c. c.least ≤ c.size) (column_at spanned) (range_with_len 0 (length h.edges - 1))
      (λ k d lt. parts_less spanned (get_or (range_with_len 0 (length h.edges - 1)) k d)
      (spanned_some cells h.placed h.edges h.are_placed some h.are_edges)
      (All-map (λ s. s.cell.least ≤ s.cell.size) (span_in h.edges) h.placed
      (cells_all (λ c. c.least ≤ c.size) cells h.placed h.are_placed less))))),
)
  where
    all : List Column
    all = all_columns h.placed h.edges

    spanned : List SpannedCell
    spanned = map (span_in h.edges) h.placed
