-- Row spans that end: in order of the row after their last one.
use Rattle.std.specs.Prelude.{◌≡◌, ℕ, ◌+◌, ◌<◌, ◌≤◌, List, length, get_or, take, All, Contains}
use Rattle.std.specs.List.Sorted.{IsNonDecreasingBy}
use Rattle.table_grid.specs.declared.cell.Cell.{Cell}
use Rattle.table_grid.specs.declared.cell.PlacedCell.{PlacedCell}
use Rattle.table_grid.specs.declared.covers.Cover.{Cover}
use Rattle.table_grid.specs.declared.ends.RowEnd.{RowEnd}
use Rattle.table_grid.specs.Places.{right_of, bottom_of, ArePlaced}
use Rattle.table_grid.specs.PlaceLaws.{placed_at}
use Rattle.table_grid.specs.Covers.{AreApart, AreOrdered, EndBefore, IsBetweenRows, Misses, cover_of, farthest}

-- where a cell's row span ends
abbrev pub end_of : ℕ → Cell → RowEnd
end_of place cell = record { place = place; bottom = cell.row + cell.rowspan }

abbrev pub end_at : List RowEnd → ℕ → RowEnd
end_at ends k = get_or ends k (record { place = 0; bottom = 0 })

-- it is the end of one of the cells
pub record IsEnd (cells : List Cell) (e : RowEnd) : Type 0 where
  pub within : e.place < length cells
  pub is : (d : Cell) → e.bottom ≡ (get_or cells e.place d).row + (get_or cells e.place d).rowspan

-- the ends of all cells, in order
pub record AreEnds (cells : List Cell) (ends : List RowEnd) : Type 0 where
  pub rising : IsNonDecreasingBy (λ e. e.bottom) ends
  pub each : All (IsEnd cells) ends
  pub all : (k : ℕ) (d : Cell) → k < length cells → Contains ends (end_of k (get_or cells k d))

-- ends up to `at` are above the row, the others are not
pub record AreAbove (ends : List RowEnd) (at row : ℕ) : Type 0 where
  pub within : at ≤ length ends
  pub above : (k : ℕ) → k < at → (end_at ends k).bottom ≤ row
  pub below : (k : ℕ) → at ≤ k → k < length ends → row < (end_at ends k).bottom

-- what a cell takes whose row span is one of the ends from `over` to before `at`
pub record HasEnded (ends : List RowEnd) (over at : ℕ) (placed : List PlacedCell) (cover : Cover) : Type 0 where
  pub place : ℕ
  pub from : over ≤ place
  pub to : place < at
  pub is : cover ≡ cover_of (placed_at placed (end_at ends place).place)

-- what all those take, by their left edges; where the row span of none of them reaches the row
pub record AreEnded (ends : List RowEnd) (over at : ℕ) (placed : List PlacedCell) (row : ℕ) (ended : List Cover) : Type
    0 where
  pub farther : over ≤ at
  pub within : at ≤ length ends
  pub above : (k : ℕ) → over ≤ k → k < at → (end_at ends k).bottom ≤ row
  pub below : at < length ends → row < (end_at ends at).bottom
  pub rising : IsNonDecreasingBy (λ c. c.left) ended
  pub each : All (HasEnded ends over at placed) ended
  pub all : (k : ℕ) → over ≤ k → k < at → Contains ended (cover_of (placed_at placed (end_at ends k).place))

-- no cell takes this column in a row from `from` on
pub record MissFrom (placed : List PlacedCell) (from column : ℕ) : Type 0 where
  pub all : All (λ p. from ≤ bottom_of p → p.left ≤ column → column < right_of p → ⊥) placed

-- whole rows are placed: those before `from`; the two lists of covers are what their cells take of the last one
pub record IsUpTo (cells : List Cell) (ends : List RowEnd) (over : ℕ) (covers own : List Cover)
    (placed : List PlacedCell) : Type 0 where
  pub from : ℕ
  pub within : length placed ≤ length cells
  pub so_far : ArePlaced (take (length placed) cells) placed
  pub bounded : All (λ p. right_of p ≤ farthest (length placed)) placed
  pub upper : All (λ p. p.cell.row < from) placed
  pub next : (d : Cell) → length placed < length cells → from ≤ (get_or cells (length placed) d).row
  pub over_within : over ≤ length ends
  pub over_above : (k : ℕ) → k < over → (end_at ends k).bottom < from
  pub over_below : (k : ℕ) → over ≤ k → k < length ends → from ≤ (end_at ends k).bottom
  pub covers_ordered : AreOrdered covers
  pub own_ordered : AreOrdered own
  pub covers_end : EndBefore covers (farthest (length placed))
  pub own_end : EndBefore own (farthest (length placed))
  pub apart : All (λ c. All (AreApart c) own) covers
  pub fewer : (column : ℕ) → MissFrom placed from column → Misses covers column × Misses own column
  pub more : (column : ℕ) → Misses covers column → Misses own column → MissFrom placed from column

-- the same at the next row
pub record HasNextCovers (cells : List Cell) (ends : List RowEnd) (over row : ℕ) (covers : List Cover)
    (placed : List PlacedCell) : Type 0 where
  pub between : IsBetweenRows cells row covers placed
  pub above : AreAbove ends over row
