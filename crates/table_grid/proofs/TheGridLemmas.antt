-- The grid that a function gives is the one that the relation says.
use Rattle.std.proofs.Common.{◌≡◌, ◌+◌, ◌≤◌, ◌==◌, ◌∙◌, All, List, arith, get_or, map, refl, subst, sym, true, ℕ}
use Rattle.std.specs.List.{filter, range_with_len, Any}
use Rattle.std.specs.List.Sorted.{IsNonDecreasingBy, IsStrictlyIncreasing}
use Rattle.std.proofs.lemmas.Bool.Decides.{nat_tests}
use Rattle.std.proofs.lemmas.List.{get_or_default}
use Rattle.std.proofs.lemmas.List.Elements.{All-append, All-contains, All-map, filter_passes}
use Rattle.std.proofs.lemmas.List.Folds.{Any-from_list_any, list_any_at}
use Rattle.std.proofs.lemmas.List.FromFn.{length-range_with_len, get_or-range_with_len}
use Rattle.std.proofs.lemmas.List.Kept.{IsStrictlyIncreasing-filter}
use Rattle.table_grid.specs.declared.cell.Cell.{Cell}
use Rattle.table_grid.specs.declared.cell.PlacedCell.{PlacedCell}
use Rattle.table_grid.specs.Gaps.{AreGaps}
use Rattle.table_grid.specs.Places.{cell_of, left_of, right_of, ArePlaced}
use Rattle.table_grid.specs.Placing.{end_of, gaps_of, places_of}
use Rattle.table_grid.proofs.NumberLemmas.{number_in}
use Rattle.table_grid.proofs.PlacingLemmas.{ends_within}
use Rattle.table_grid.specs.Grid.{sides, AreEdges, IsGrid}
use Rattle.table_grid.specs.TheGrid.{is_edge, edges_of, grid}
use Rattle.table_grid.proofs.GridLemmas.{map_rose}

range_rises : (n : ℕ) → IsStrictlyIncreasing (range_with_len 0 n)
range_rises n k lt =
    let len = length-range_with_len 0 n in
    let a = get_or-range_with_len 0 n k 0 (omega arith) in
    let b = get_or-range_with_len 0 n (k + 1) 0 (omega arith) in
    omega arith

sides_within : (placed : List PlacedCell) → All (λ e. e ≤ end_of placed) (sides placed)
sides_within placed = All-append (λ e. e ≤ end_of placed) (map left_of placed) (map right_of placed)
    (All-map (λ e. e ≤ end_of placed) left_of placed (λ k d lt. let w = ends_within placed k d lt in omega arith))
    (All-map (λ e. e ≤ end_of placed) right_of placed (ends_within placed))

same_edge : (a b : ℕ) → a ≡ b → (a == b) ≡ true
same_edge a b e = grind (arith, nat_tests)

edge_same : (a b : ℕ) → (a == b) ≡ true → a ≡ b
edge_same a b e = grind (arith, nat_tests)

pub are_edges : (placed : List PlacedCell) → AreEdges placed (edges_of placed)
unfolding edges_of
are_edges placed = record {
  rising = IsStrictlyIncreasing-filter (is_edge placed) (range_with_len 0 (end_of placed + 1))
      (range_rises (end_of placed + 1));
  all = λ edge h. number_in (is_edge placed) (end_of placed + 1) edge
      (let w = All-contains (λ e. e ≤ end_of placed) (sides placed) edge (sides_within placed) h in omega arith)
      (list_any_at (λ e. e == edge) (sides placed) h.0 edge h.1 (same_edge (get_or (sides placed) h.0 edge) edge h.2));
  only = λ edge h.
      let is : is_edge placed edge ≡ true =
      All-contains (λ e. is_edge placed e ≡ true)
      (filter (is_edge placed) (range_with_len 0 (end_of placed + 1))) edge
      (filter_passes (is_edge placed) (range_with_len 0 (end_of placed + 1))) h in
      let any : Any (λ e. (e == edge) ≡ true) (sides placed) =
      Any-from_list_any (λ e. e == edge) (sides placed) is in (
        any.0,
        any.2,
        get_or_default (sides placed) any.0 edge any.1 any.2 ∙ any.3 ∙ edge_same any.1 edge any.4,
      );
}

-- by the laws of places
pub have_grid : ((cells : List Cell) → ArePlaced cells (places_of cells)) →
    ((placed : List PlacedCell) → IsNonDecreasingBy (λ p. p.cell.row) placed → AreGaps placed (gaps_of placed)) →
    (cells : List Cell) → IsNonDecreasingBy (λ c. c.row) cells →
    IsGrid cells (grid cells).columns (grid cells).cells (grid cells).gaps
unfolding grid
have_grid placing gapping cells rows = record {
  placed = places_of cells;
  edges = edges_of (places_of cells);
  between = gaps_of (places_of cells);
  are_placed = placing cells;
  are_edges = are_edges (places_of cells);
  are_gaps = gapping (places_of cells)
      (map_rose cell_of (λ c. c.row) (places_of cells)
      (subst (IsNonDecreasingBy (λ c. c.row)) (sym (placing cells).same) rows));
  columns_are = refl;
  cells_are = refl;
  gaps_are = refl;
}
