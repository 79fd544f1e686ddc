-- Covers without the columns of others.
use Rattle.std.specs.Prelude.{ℕ, ◌<◌, ◌≤◌, List, length, take}
use Rattle.table_grid.specs.declared.covers.Cover.{Cover}
use Rattle.table_grid.specs.Covers.{cover_at, AreOrdered, EndBefore, Misses}

-- covers without the columns of others
pub record IsWithout (covers ended kept : List Cover) : Type 0 where
  pub whole : AreOrdered kept
  pub fewer : (column : ℕ) → Misses covers column → Misses kept column
  pub apart : (column : ℕ) → (Misses ended column → ⊥) → Misses kept column
  pub more : (column : ℕ) → Misses kept column → Misses ended column → Misses covers column
  pub ends : (bound : ℕ) → EndBefore covers bound → EndBefore kept bound

-- a part from `left` to before `right` was put after the others, if it has a column
pub record IsPartPut (left right : ℕ) (old new : List Cover) : Type 0 where
  pub whole : AreOrdered new
  pub fewer : (column : ℕ) → Misses old column → (left ≤ column → column < right → ⊥) → Misses new column
  pub more : (column : ℕ) → Misses new column → Misses old column × (left ≤ column → column < right → ⊥)
  pub ends : (bound : ℕ) → EndBefore old bound → right ≤ bound → EndBefore new bound

-- what is kept of the covers up to `i`, where those of the others that begin before them are passed, up to `at`
pub record IsKept (covers ended : List Cover) (i at trailing : ℕ) (kept : List Cover) : Type 0 where
  pub within : at ≤ length ended
  pub whole : AreOrdered kept
  pub ends : (bound : ℕ) → EndBefore (take i covers) bound → EndBefore kept bound
  pub passed : (k : ℕ) → k < at → (cover_at ended k).right ≤ trailing
  pub coming : (j k : ℕ) → j < i → at ≤ k → k < length ended → (cover_at covers j).right ≤ (cover_at ended k).left
  pub reached : (column : ℕ) → ((j : ℕ) → j < i → (cover_at covers j).right ≤ column) → column < trailing →
      Misses ended column → ⊥
  pub fewer : (column : ℕ) → Misses (take i covers) column → Misses kept column
  pub apart : (column : ℕ) → (Misses ended column → ⊥) → Misses kept column
  pub more : (column : ℕ) → Misses kept column → Misses ended column → Misses (take i covers) column
