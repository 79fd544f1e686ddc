-- The laws of places, by the rows and spans of the cells.
use Rattle.std.proofs.Common.{◌≡◌, ◌⊎◌, ℕ, ◌+◌, ◌<◌, List, length, get_or, subst, sym, ap, ◌∙◌, arith, All}
use Rattle.std.specs.List.Sorted.{IsNonDecreasingBy}
use Rattle.std.proofs.lemmas.List.{get_or-map, length-map}
use Rattle.table_grid.specs.declared.cell.Cell.{Cell}
use Rattle.table_grid.specs.declared.cell.PlacedCell.{PlacedCell}
use Rattle.table_grid.specs.Places.{cell_of, ArePlaced}
use Rattle.table_grid.specs.Gaps.{IsVacant}
use Rattle.table_grid.specs.PlaceLaws.{HasCellUpTo, HasGapUpTo, StandsIn, Takes, placed_at}
use Rattle.table_grid.proofs.ApartLemmas.{standing_apart, place_tight}
use Rattle.table_grid.proofs.HoleLemmas.{nobody, no_hole}

pub one_cell : (cells : List Cell) (placed : List PlacedCell) → ArePlaced cells placed → (k : ℕ) (d : PlacedCell) →
    k < length placed →
    (get_or placed k d).cell ≡ get_or cells k d.cell
one_cell cells placed h k d lt =
    sym (get_or-map cell_of placed k d d.cell lt) ∙ ap (λ (xs : List Cell). get_or xs k d.cell) h.same

as_many : (cells : List Cell) (placed : List PlacedCell) → ArePlaced cells placed → length placed ≡ length cells
as_many cells placed h = sym (length-map placed cell_of) ∙ ap (λ (xs : List Cell). length xs) h.same

pub all_placed : (P : Cell → Type 0) (cells : List Cell) (placed : List PlacedCell) → ArePlaced cells placed →
    All P cells →
    All (λ p. P p.cell) placed
all_placed P cells placed h all k d lt =
    subst P (sym (one_cell cells placed h k d lt)) (all k d.cell (let e = as_many cells placed h in omega arith))

pub rows_placed : (cells : List Cell) (placed : List PlacedCell) → ArePlaced cells placed →
    IsNonDecreasingBy (λ c. c.row) cells → IsNonDecreasingBy (λ p. p.cell.row) placed
rows_placed cells placed h rows i j d le lt =
    let a = ap (λ (c : Cell). c.row) (one_cell cells placed h i d (omega arith)) in
    let b = ap (λ (c : Cell). c.row) (one_cell cells placed h j d lt) in
    let r = rows i j d.cell le (let e = as_many cells placed h in omega arith) in
    omega arith

pub no_slot_twice : (cells : List Cell) (placed : List PlacedCell) → IsNonDecreasingBy (λ c. c.row) cells →
    ArePlaced cells placed →
    (j k row column : ℕ) → j < k → k < length placed → StandsIn row (placed_at placed j) →
    StandsIn row (placed_at placed k) →
    Takes column (placed_at placed j) → Takes column (placed_at placed k) → ⊥
no_slot_twice cells placed rows h j k row column lt k_lt one other from to =
    standing_apart cells placed h (rows_placed cells placed h rows) j k row column nobody lt k_lt one.reach other.upper
    from.from from.to to.from to.to

pub after_cells : (cells : List Cell) (placed : List PlacedCell) → All (λ c. 0 < c.colspan) cells →
    All (λ c. 0 < c.rowspan) cells → ArePlaced cells placed →
    (k column : ℕ) → k < length placed → column + 1 ≡ (placed_at placed k).left →
    IsVacant placed (placed_at placed k).cell.row column → ⊥
after_cells cells placed some tall h k column lt e vacant =
    place_tight cells placed h (all_placed (λ c. 0 < c.colspan) cells placed h some)
    (all_placed (λ c. 0 < c.rowspan) cells placed h tall) k column nobody lt e vacant

pub row_without_holes : (cells : List Cell) (placed : List PlacedCell) → IsNonDecreasingBy (λ c. c.row) cells →
    All (λ c. 0 < c.colspan) cells →
    All (λ c. 0 < c.rowspan) cells → ArePlaced cells placed → (k row column : ℕ) → k < length placed →
    StandsIn row (placed_at placed k) →
    column + 1 ≡ (placed_at placed k).left → HasCellUpTo placed row (column + 1) ⊎ HasGapUpTo placed row (column + 1)
row_without_holes cells placed rows some tall h k row column lt stands e =
    no_hole cells placed h (all_placed (λ c. 0 < c.colspan) cells placed h some)
    (all_placed (λ c. 0 < c.rowspan) cells placed h tall)
    (rows_placed cells placed h rows) k row column lt stands.upper stands.reach e
