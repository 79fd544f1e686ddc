-- A table has one grid.
use Rattle.std.proofs.Common.{◌≡◌, ◌<◌, ◌∙◌, List, ap, arith, filter, map, subst, sym, ℕ}
use Rattle.table_grid.specs.declared.cell.Cell.{Cell}
use Rattle.table_grid.specs.declared.cell.PlacedCell.{PlacedCell}
use Rattle.table_grid.specs.Places.{ArePlaced}
use Rattle.std.proofs.lemmas.List.Kept.{AllPairs-from_increasing}
use Rattle.table_grid.specs.declared.gaps.Gap.{Gap}
use Rattle.table_grid.specs.Gaps.{AreGaps}
use Rattle.table_grid.proofs.OrderedLemmas.{same_ordered}
use Rattle.table_grid.specs.declared.columns.Column.{Column}
use Rattle.table_grid.specs.declared.grid.GridCell.{GridCell}
use Rattle.table_grid.specs.declared.grid.GridGap.{GridGap}
use Rattle.table_grid.specs.Grid.{AreEdges, IsGrid, all_columns, gap_left, grid_cell, has_size, rows_with_cells}
use Rattle.table_grid.specs.Grid.{spans_of}

pub one_edges : (placed : List PlacedCell) (edges other : List ℕ) → AreEdges placed edges → AreEdges placed other →
    edges ≡ other
one_edges placed edges other h k = same_ordered (λ x y. x < y) (λ x y lt gt. omega arith) edges other
    (AllPairs-from_increasing edges h.rising) (AllPairs-from_increasing other k.rising)
    (λ z c. k.all z (h.only z c)) (λ z c. h.all z (k.only z c))

-- a table has one grid
pub one_grid : ((cells : List Cell) (first second : List PlacedCell) → ArePlaced cells first → ArePlaced cells second →
    first ≡ second) →
    ((placed : List PlacedCell) (first second : List Gap) → AreGaps placed first → AreGaps placed second →
    first ≡ second) → (cells : List Cell) (columns others : List Column) (grid cells_too : List GridCell)
    (gaps gaps_too : List GridGap) → IsGrid cells columns grid gaps → IsGrid cells others cells_too gaps_too →
    (columns ≡ others) × (grid ≡ cells_too) × (gaps ≡ gaps_too)
one_grid one_placing one_list_of_gaps cells columns others grid cells_too gaps gaps_too h k = (
  h.columns_are ∙ ap (λ (ps : List PlacedCell). filter has_size (all_columns ps h.edges)) placings
      ∙ ap (λ (es : List ℕ). filter has_size (all_columns k.placed es)) edges ∙ sym k.columns_are,
  h.cells_are
      ∙ ap (λ (ps : List PlacedCell). map (grid_cell (rows_with_cells (spans_of ps h.edges))) (spans_of ps h.edges))
      placings ∙
      ap (λ (es : List ℕ). map (grid_cell (rows_with_cells (spans_of k.placed es))) (spans_of k.placed es)) edges
      ∙ sym k.cells_are,
  h.gaps_are ∙ ap (λ (ps : List PlacedCell). map (gap_left h.edges (all_columns ps h.edges)) h.between) placings
      ∙ ap (λ (es : List ℕ). map (gap_left es (all_columns k.placed es)) h.between) edges ∙
      ap (map (gap_left k.edges (all_columns k.placed k.edges))) between ∙ sym k.gaps_are,
)
  where
    placings : h.placed ≡ k.placed
    placings = one_placing cells h.placed k.placed h.are_placed k.are_placed

    edges : h.edges ≡ k.edges
    edges = one_edges k.placed h.edges k.edges
        (subst (λ (ps : List PlacedCell). AreEdges ps h.edges) placings h.are_edges) k.are_edges

    between : h.between ≡ k.between
    between = one_list_of_gaps k.placed h.between k.between
        (subst (λ (ps : List PlacedCell). AreGaps ps h.between) placings h.are_gaps) k.are_gaps
