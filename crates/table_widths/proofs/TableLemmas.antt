-- The rows of a table's grid: which are shown, and the slots of each.
use Rattle.std.proofs.Common.{◌≡◌, ◌+◌, ◌<◌, ◌≤◌, ◌==◌, [], ◌∷◌, Bool, Contains, List, ap, arith, cond, eqb, false}
use Rattle.std.proofs.Common.{filter, get_or, inl, inr, length, map, refl, rules, suc, true, zero, ℕ}
use Rattle.std.specs.List.{AllByRecursion, AllPairs, zip}
use Rattle.std.specs.List.Sorted.{IsSorted}
use Rattle.std.specs.Ordering.{nat_cmp, is_lt}
use Rattle.std.proofs.lemmas.Bool.Decides.{nat_tests}
use Rattle.std.proofs.lemmas.List.Kept.{AllPairs-from_increasing, Contains-dedup_nat, Contains-from_dedup}
use Rattle.std.proofs.lemmas.Map.Keys.{IsStrictlyIncreasing-dedup}
use Rattle.table_grid.specs.declared.cell.PlacedCell.{PlacedCell}
use Rattle.table_grid.specs.declared.gaps.Gap.{Gap}
use Rattle.table_grid.specs.PlaceLaws.{placed_at}
use Rattle.table_grid.specs.Places.{cell_of, right_of}
use Rattle.table_grid.specs.declared.columns.Column.{Column}
use Rattle.table_grid.specs.declared.edges.SpannedCell.{SpannedCell}
use Rattle.table_grid.specs.Grid.{gap_left, grid_cell, has_column, row_of, rows_with_cells, span_in, span_left}
use Rattle.table_widths.specs.declared.slot.Slot.{Slot}
use Rattle.table_widths.specs.Slots.{cell_slot, gap_slot, is_cell_of, is_gap_of}
use Rattle.table_widths.proofs.EachLemmas.{Has, IsAt, Pairs, at_has, has_at, has_kept, has_weaker, kept_has, pairs_from}
use Rattle.table_widths.proofs.EachLemmas.{pairs_kept}
use Rattle.table_widths.proofs.ReachLemmas.{reach}
use Rattle.table_widths.proofs.LeftLemmas.{left_at}
use Rattle.table_widths.proofs.PageLemmas.{nobody}
use Rattle.table_widths.proofs.SlotLemmas.{begins_in, is_gap_in, empty_slot, empty_slots, own_slot, own_slots}

-- ---- lists
has_map : {X Y : Type 0} (f : X → Y) (P : Y → Type 0) (xs : List X) → Has (λ x. P (f x)) xs → Has P (map f xs)
has_map f P [] h = h
has_map f P (x ∷ xs) (inl p) = inl p
has_map f P (x ∷ xs) (inr h) = inr (has_map f P xs h)

map_has : {X Y : Type 0} (f : X → Y) (P : Y → Type 0) (xs : List X) → Has P (map f xs) → Has (λ x. P (f x)) xs
map_has f P [] h = h
map_has f P (x ∷ xs) (inl p) = inl p
map_has f P (x ∷ xs) (inr h) = inr (map_has f P xs h)

each_map : {X Y : Type 0} (f : X → Y) (P : Y → Type 0) (xs : List X) → AllByRecursion (λ x. P (f x)) xs →
    AllByRecursion P (map f xs)
each_map f P [] h = tt
each_map f P (x ∷ xs) h = (h.0, each_map f P xs h.1)

pairs_map : {X Y : Type 0} (f : X → Y) (R : Y → Y → Type 0) (xs : List X) → Pairs (λ x y. R (f x) (f y)) xs →
    Pairs R (map f xs)
pairs_map f R [] h = tt
pairs_map f R (x ∷ xs) h = (each_map f (R (f x)) xs h.0, pairs_map f R xs h.1)

each_there : {X : Type 0} (P : X → Type 0) (xs : List X) (k : ℕ) (d : X) → k < length xs → AllByRecursion P xs →
    P (get_or xs k d)
each_there P [] k d lt h = absurd (omega arith)
each_there P (x ∷ xs) zero d lt h = h.0
each_there P (x ∷ xs) (suc k) d lt h = each_there P xs k d (omega arith) h.1

pairs_there : {X : Type 0} (R : X → X → Type 0) (xs : List X) (i j : ℕ) (d : X) → i < j → j < length xs →
    Pairs R xs → R (get_or xs i d) (get_or xs j d)
pairs_there R [] i j d lt j_lt h = absurd (omega arith)
pairs_there R (x ∷ xs) i zero d lt j_lt h = absurd (omega arith)
pairs_there R (x ∷ xs) zero (suc j) d lt j_lt h = each_there (R x) xs j d (omega arith) h.0
pairs_there R (x ∷ xs) (suc i) (suc j) d lt j_lt h = pairs_there R xs i j d (omega arith) (omega arith) h.1

contains_has : (xs : List ℕ) (x : ℕ) → Contains xs x → Has (λ y. y ≡ x) xs
contains_has xs x c = has_at (λ y. y ≡ x) xs c.0 x c.1 c.2

has_contains : (xs : List ℕ) (x : ℕ) → Has (λ y. y ≡ x) xs → Contains xs x
has_contains xs x h = by (at_has (λ y. y ≡ x) xs x h)
  where
    by : IsAt (λ y. y ≡ x) xs x → Contains xs x
    by a = (a.place, a.lt, a.holds)

-- ---- rows that are shown
not_less : (x y : ℕ) → y ≤ x → is_lt (nat_cmp x y) ≡ false
not_less x y le = search rules

sorted_numbers : (xs : List ℕ) → Pairs (λ x y. x ≤ y) xs → IsSorted nat_cmp xs
sorted_numbers xs h k d from lt =
    not_less (get_or xs (k + 1) d) (get_or xs k d) (pairs_there (λ x y. x ≤ y) xs k (k + 1) d (omega arith) lt h)

module _ (placed : List PlacedCell) (edges : List ℕ) (columns : List Column) where
  abbrev pub spans : List SpannedCell
  spans = map (span_left columns) (map (span_in edges) placed)

  rows_in_order : AllPairs (λ p q. p.cell.row ≤ q.cell.row) placed →
      Pairs (λ r s. r ≤ s) (map row_of (filter has_column spans))
  rows_in_order h = pairs_kept row_of has_column (λ r s. r ≤ s) spans
      (pairs_map (span_left columns) (λ s t. has_column s ≡ true → has_column t ≡ true → s.cell.row ≤ t.cell.row)
      (map (span_in edges) placed)
      (pairs_map (span_in edges)
      (λ s t. has_column (span_left columns s) ≡ true → has_column (span_left columns t) ≡ true →
      s.cell.row ≤ t.cell.row) placed
      (pairs_from (λ p q. has_column (span_left columns (span_in edges p)) ≡ true →
      has_column (span_left columns (span_in edges q)) ≡ true → p.cell.row ≤ q.cell.row) placed
      (λ i j d lt j_lt e f. h i j d lt j_lt))))

  pub shown_rise : AllPairs (λ p q. p.cell.row ≤ q.cell.row) placed → Pairs (λ r s. r < s) (rows_with_cells spans)
  shown_rise h = pairs_from (λ r s. r < s) (rows_with_cells spans)
      (AllPairs-from_increasing (rows_with_cells spans)
      (IsStrictlyIncreasing-dedup (map row_of (filter has_column spans))
      (sorted_numbers (map row_of (filter has_column spans)) (rows_in_order h))))

  has_columns_of : (s : SpannedCell) → has_column s ≡ true → s.first < s.last
  has_columns_of s e = grind (arith, nat_tests)

  has_column_passes : (s : SpannedCell) → s.first < s.last → has_column s ≡ true
  has_column_passes s lt = grind (arith, nat_tests)

  pub shown_some : (row : ℕ) → Has (λ r. r ≡ row) (rows_with_cells spans) →
      IsAt (λ p. (p.cell.row ≡ row) × (left_at edges columns p.left < left_at edges columns (right_of p))) placed
      nobody
  shown_some row h =
      at_has (λ p. (p.cell.row ≡ row) × (left_at edges columns p.left < left_at edges columns (right_of p))) placed
      nobody
      (has_weaker (λ p. (has_column (span_left columns (span_in edges p)) ≡ true) × (p.cell.row ≡ row))
      (λ p. (p.cell.row ≡ row) × (left_at edges columns p.left < left_at edges columns (right_of p)))
      (λ p h. (h.1, has_columns_of (span_left columns (span_in edges p)) h.0)) placed
      (map_has (span_in edges) (λ s. (has_column (span_left columns s) ≡ true) × (s.cell.row ≡ row)) placed
      (map_has (span_left columns) (λ s. (has_column s ≡ true) × (s.cell.row ≡ row)) (map (span_in edges) placed)
      (kept_has row_of has_column (λ r. r ≡ row) spans
      (contains_has (map row_of (filter has_column spans)) row
      (Contains-from_dedup eqb (map row_of (filter has_column spans)) row
      (has_contains (rows_with_cells spans) row h)))))))

  pub shown_all : (k : ℕ) → k < length placed →
      left_at edges columns (placed_at placed k).left < left_at edges columns (right_of (placed_at placed k)) →
      Has (λ r. r ≡ (placed_at placed k).cell.row) (rows_with_cells spans)
  shown_all k lt some = by (placed_at placed k).cell.row refl
    where
      by : (row : ℕ) → (placed_at placed k).cell.row ≡ row → Has (λ r. r ≡ row) (rows_with_cells spans)
      by row e = contains_has (rows_with_cells spans) row
          (Contains-dedup_nat (map row_of (filter has_column spans)) row
          (has_contains (map row_of (filter has_column spans)) row
          (has_kept row_of has_column (λ r. r ≡ row) spans
          (has_map (span_left columns) (λ s. (has_column s ≡ true) × (s.cell.row ≡ row)) (map (span_in edges) placed)
          (has_map (span_in edges) (λ s. (has_column (span_left columns s) ≡ true) × (s.cell.row ≡ row)) placed
          (has_at (λ p. (has_column (span_left columns (span_in edges p)) ≡ true) × (p.cell.row ≡ row)) placed k nobody
          lt (has_column_passes (span_left columns (span_in edges (placed_at placed k))) some, e)))))))

-- ---- slots
module _ (edges : List ℕ) (columns : List Column) (rows : List ℕ) (row : ℕ) where
  pub own_same : (placed : List PlacedCell) →
      map cell_slot (filter (is_cell_of row) (zip (map cell_of placed)
      (map (grid_cell rows) (map (span_left columns) (map (span_in edges) placed)))))
      ≡ own_slots placed (left_at edges columns) rows row
  unfolding reach
  own_same [] = refl
  own_same (p ∷ placed) = by (p.cell.row == row) (own_same placed)
    where
      by : (b : Bool) →
          map cell_slot (filter (is_cell_of row) (zip (map cell_of placed)
          (map (grid_cell rows) (map (span_left columns) (map (span_in edges) placed)))))
          ≡ own_slots placed (left_at edges columns) rows row →
          map cell_slot (cond b
          ((p.cell, grid_cell rows (span_left columns (span_in edges p)))
          ∷ filter (is_cell_of row) (zip (map cell_of placed)
          (map (grid_cell rows) (map (span_left columns) (map (span_in edges) placed)))))
          (filter (is_cell_of row) (zip (map cell_of placed)
          (map (grid_cell rows) (map (span_left columns) (map (span_in edges) placed))))))
          ≡ map (own_slot (left_at edges columns) rows)
          (cond b (p ∷ filter (begins_in row) placed) (filter (begins_in row) placed))
      by true e = ap (λ (slots : List Slot). own_slot (left_at edges columns) rows p ∷ slots) e
      by false e = e

  pub gaps_same : (between : List Gap) →
      map gap_slot (filter (is_gap_of row) (map (gap_left edges columns) between))
      ≡ empty_slots between (left_at edges columns) row
  gaps_same [] = refl
  gaps_same (g ∷ between) = by (is_gap_in (left_at edges columns) row g) (gaps_same between)
    where
      by : (b : Bool) →
          map gap_slot (filter (is_gap_of row) (map (gap_left edges columns) between))
          ≡ empty_slots between (left_at edges columns) row →
          map gap_slot (cond b
          (gap_left edges columns g ∷ filter (is_gap_of row) (map (gap_left edges columns) between))
          (filter (is_gap_of row) (map (gap_left edges columns) between)))
          ≡ map (empty_slot (left_at edges columns))
          (cond b (g ∷ filter (is_gap_in (left_at edges columns) row) between)
          (filter (is_gap_in (left_at edges columns) row) between))
      by true e = ap (λ (slots : List Slot). empty_slot (left_at edges columns) g ∷ slots) e
      by false e = e
