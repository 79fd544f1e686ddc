-- Cells of a grid stand within its columns.
use Rattle.std.proofs.Common.{◌≤◌, [], ◌∷◌, List, arith, cond, filter, length, map, nat_lt, suc, take}
use Rattle.std.proofs.Common.{zero, ℕ}
use Rattle.std.proofs.lemmas.Bool.Decides.{nat_tests}
use Rattle.std.proofs.lemmas.List.Elements.{All-from_recursion}
use Rattle.std.proofs.lemmas.List.Sums.{length-filter, sum_by-cons}
use Rattle.std.specs.List.{AllByRecursion}
use Rattle.column_fits.specs.Fits.{AreWithin}
use Rattle.column_fits.specs.declared.cell.CellWidths.{CellWidths}
use Rattle.content_widths.specs.declared.widths.ContentWidths.{ContentWidths}
use Rattle.table_fits.specs.TableFits.{in_grid}
use Rattle.table_grid.specs.Grid.{all_columns, grid_cell, has_size, left_before, rank, rows_with_cells, span_in}
use Rattle.table_grid.specs.Grid.{span_left}
use Rattle.table_grid.specs.Grid.{spans_of}
use Rattle.table_grid.specs.Places.{right_of}
use Rattle.table_grid.specs.Placing.{places_of}
use Rattle.table_grid.specs.TheGrid.{edges_of, grid}
use Rattle.table_grid.specs.declared.cell.Cell.{Cell}
use Rattle.table_grid.specs.declared.cell.PlacedCell.{PlacedCell}
use Rattle.table_grid.specs.declared.columns.Column.{Column}

rank_rises : (xs : List ℕ) (x y : ℕ) → x ≤ y → rank xs x ≤ rank xs y
unfolding rank
rank_rises [] x y le = omega arith
rank_rises (z ∷ xs) x y le =
    let rest = rank_rises xs x y le in
    let a = sum_by-cons (λ w. cond (nat_lt w x) 1 0) z xs in
    let b = sum_by-cons (λ w. cond (nat_lt w y) 1 0) z xs in
    grind (arith, nat_tests)

left_rises : (columns : List Column) (a b : ℕ) → a ≤ b → left_before columns a ≤ left_before columns b
unfolding left_before
left_rises [] zero b h = omega arith
left_rises [] (suc a) b h = by b
  where
    by : (b : ℕ) → left_before [] (suc a) ≤ left_before [] b
    by zero = omega arith
    by (suc b) = omega arith
left_rises (c ∷ columns) zero b h = omega arith
left_rises (c ∷ columns) (suc a) zero h = absurd (omega arith)
left_rises (c ∷ columns) (suc a) (suc b) h =
    let rest = left_rises columns a b (omega arith) in
    let x = sum_by-cons (λ k. cond (has_size k) 1 0) c (take a columns) in
    let y = sum_by-cons (λ k. cond (has_size k) 1 0) c (take b columns) in
    omega arith

left_within : (columns : List Column) (n : ℕ) → left_before columns n ≤ length (filter has_size columns)
unfolding left_before
left_within [] zero = omega arith
left_within [] (suc n) = omega arith
left_within (c ∷ columns) zero = omega arith
left_within (c ∷ columns) (suc n) =
    let rest = left_within columns n in
    let x = sum_by-cons (λ k. cond (has_size k) 1 0) c (take n columns) in
    let y = sum_by-cons (λ k. cond (has_size k) 1 0) c columns in
    let a = length-filter has_size columns in
    let b = length-filter has_size (c ∷ columns) in
    omega arith

-- a cell and what it asks for
abbrev IsIn : ℕ → CellWidths → Type 0
IsIn count c = (c.first ≤ c.last) × (c.last ≤ count)

placed_within : (rows edges : List ℕ) (columns : List Column) (placed : List PlacedCell) (widths : List ContentWidths)
    → AllByRecursion (IsIn (length (filter has_size columns)))
    (in_grid (map (grid_cell rows) (map (span_left columns) (map (span_in edges) placed))) widths)
placed_within rows edges columns [] widths = tt
placed_within rows edges columns (p ∷ placed) [] = tt
placed_within rows edges columns (p ∷ placed) (w ∷ widths) = (
  (
    left_rises columns (rank edges p.left) (rank edges (right_of p)) (rank_rises edges p.left (right_of p)
        (omega arith)),
    left_within columns (rank edges (right_of p)),
  ),
  placed_within rows edges columns placed widths,
)

pub grid_within : (cells : List Cell) (widths : List ContentWidths)
    → AreWithin (length (grid cells).columns) (in_grid (grid cells).cells widths)
unfolding grid
grid_within cells widths =
    let placed = places_of cells in
    let edges = edges_of placed in
    let columns = all_columns placed edges in
    All-from_recursion (IsIn (length (filter has_size columns)))
    (in_grid (map (grid_cell (rows_with_cells (spans_of placed edges))) (spans_of placed edges)) widths)
    (placed_within (rows_with_cells (spans_of placed edges)) edges columns placed widths)
