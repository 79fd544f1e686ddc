-- Covers: columns that cells take in a row.
use Rattle.std.specs.Prelude.{◌≡◌, ℕ, ◌*◌, ◌^◌, ◌+◌, ◌-◌, ◌<◌, ◌≤◌, List, length, get_or, take, All}
use Rattle.table_grid.specs.declared.covers.Cover.{Cover}
use Rattle.table_grid.specs.declared.cell.Cell.{Cell}
use Rattle.table_grid.specs.declared.cell.PlacedCell.{PlacedCell}
use Rattle.table_grid.specs.Places.{right_of, bottom_of, IsFree, ArePlaced}

abbrev pub cover_at : List Cover → ℕ → Cover
cover_at covers k = get_or covers k (record { left = 0; right = 0 })

-- none is empty, and each stands after the one before it
pub record AreOrdered (covers : List Cover) : Type 0 where
  pub held : All (λ c. c.left < c.right) covers
  pub rising : (j k : ℕ) → j < k → k < length covers → (cover_at covers j).right ≤ (cover_at covers k).left

-- all end at this column or before
pub record EndBefore (covers : List Cover) (column : ℕ) : Type 0 where
  pub within : All (λ c. c.right ≤ column) covers

-- the first covers that a cell from here on no longer meets
pub record ArePassed (covers : List Cover) (at trailing : ℕ) : Type 0 where
  pub within : at ≤ length covers
  pub passed : (k : ℕ) → k < at → (cover_at covers k).right ≤ trailing

-- no cover stands in the columns from start on
pub record IsClear (covers : List Cover) (start span : ℕ) : Type 0 where
  pub clear : All (λ c. (column : ℕ) → start ≤ column → column < start + span → c.left ≤ column → column < c.right → ⊥)
      covers

-- the first such columns, from `trailing` on
pub record IsFirstFree (covers : List Cover) (trailing span start : ℕ) : Type 0 where
  pub after : trailing ≤ start
  pub clear : IsClear covers start span
  pub first : (earlier : ℕ) → trailing ≤ earlier → IsClear covers earlier span → start ≤ earlier

abbrev pub MissesOne : Cover → ℕ → Type 0
MissesOne c column = c.left ≤ column → column < c.right → ⊥

-- no cover takes this column
pub record Misses (covers : List Cover) (column : ℕ) : Type 0 where
  pub misses : All (λ c. MissesOne c column) covers

-- no column is in both
pub record AreApart (a b : Cover) : Type 0 where
  pub apart : (column : ℕ) → a.left ≤ column → column < a.right → b.left ≤ column → column < b.right → ⊥

-- covers of which those up to `at` stand in `merged`, where nothing reaches past `limit` or the next one
pub record IsMergedTo (covers : List Cover) (at limit : ℕ) (merged : List Cover) : Type 0 where
  pub within : at ≤ length covers
  pub whole : AreOrdered merged
  pub ends : EndBefore merged limit
  pub trailing : at < length covers → EndBefore merged (cover_at covers at).left

-- those from `at` to `n` were put after the old ones
pub record ArePushed (covers : List Cover) (at n limit : ℕ) (old new : List Cover) : Type 0 where
  pub merged : IsMergedTo covers n limit new
  pub passed : at ≤ n
  pub fewer : (column : ℕ) → Misses old column → Misses (take n covers) column → Misses new column
  pub more : (column : ℕ) → Misses new column → Misses old column
  pub also : (column : ℕ) → Misses new column → Misses (take at covers) column → Misses (take n covers) column
  pub ends : (bound : ℕ) → EndBefore covers bound → EndBefore old bound → EndBefore new bound

-- covers and those of a row, merged
pub record AreMerged (covers own merged : List Cover) : Type 0 where
  pub whole : AreOrdered merged
  pub fewer : (column : ℕ) → Misses covers column → Misses own column → Misses merged column
  pub more : (column : ℕ) → Misses merged column → Misses covers column × Misses own column
  pub ends : (bound : ℕ) → EndBefore covers bound → EndBefore own bound → EndBefore merged bound

-- what a cell takes of its rows
abbrev pub cover_of : PlacedCell → Cover
cover_of p = record { left = p.left; right = right_of p }

-- the cell does not take this column, if its row span reaches past this row
abbrev pub CellMisses : ℕ → ℕ → PlacedCell → Type 0
CellMisses row column p = row < bottom_of p → p.left ≤ column → column < right_of p → ⊥

-- no cell takes this column in this row
pub record AllMiss (placed : List PlacedCell) (row column : ℕ) : Type 0 where
  pub all : All (CellMisses row column) placed

-- a column that no edge of so many cells passes
abbrev pub farthest : ℕ → ℕ
farthest count = count * (2 ^ 64 - 1)

-- the rows above `row` are placed, and the covers are what their cells take of it
pub record IsBetweenRows (cells : List Cell) (row : ℕ) (covers : List Cover) (placed : List PlacedCell) : Type 0 where
  pub within : length placed ≤ length cells
  pub so_far : ArePlaced (take (length placed) cells) placed
  pub above : All (λ p. p.cell.row < row) placed
  pub bounded : All (λ p. right_of p ≤ farthest (length placed)) placed
  pub whole : AreOrdered covers
  pub ends : EndBefore covers (farthest (length placed))
  pub fewer : (column : ℕ) → AllMiss placed row column → Misses covers column
  pub more : (column : ℕ) → Misses covers column → AllMiss placed row column

-- the row is placed too, and `own` is what its cells cover
pub record IsAfterRow (cells : List Cell) (row : ℕ) (covers own : List Cover)
    (old placed : List PlacedCell) : Type 0 where
  pub within : length placed ≤ length cells
  pub so_far : ArePlaced (take (length placed) cells) placed
  pub upper : All (λ p. p.cell.row ≤ row) placed
  pub bounded : All (λ p. right_of p ≤ farthest (length placed)) placed
  pub over : (d : Cell) → length placed < length cells → (get_or cells (length placed) d).row ≡ row → ⊥
  pub farther : length old ≤ length placed
  pub stays : take (length old) placed ≡ old
  pub fresh : (k : ℕ) (d : PlacedCell) → length old ≤ k → k < length placed → (get_or placed k d).cell.row ≡ row
  pub free : (column : ℕ) → Misses covers column → IsFree placed row column
  pub taken : (column : ℕ) → IsFree placed row column → Misses covers column
  pub ordered : AreOrdered own
  pub ends : EndBefore own (farthest (length placed))
  pub apart : All (λ c. All (AreApart c) own) covers
  pub fewer : (column : ℕ) → AllMiss placed row column → Misses covers column × Misses own column
  pub more : (column : ℕ) → Misses covers column → Misses own column → AllMiss placed row column
