-- Gaps of one row, among what cells from above cover and what its own cells cover.
use Rattle.std.specs.Prelude.{◌≡◌, ℕ, ◌+◌, ◌-◌, ◌<◌, ◌≤◌, List, ◌++◌, length, All, Contains}
use Rattle.std.specs.List.{AllPairs}
use Rattle.table_grid.specs.declared.covers.Cover.{Cover}
use Rattle.table_grid.specs.declared.gaps.Gap.{Gap}
use Rattle.table_grid.specs.Covers.{cover_at}
use Rattle.table_grid.specs.Gaps.{gap_of}

-- no cover takes this column
pub record IsBare (covers : List Cover) (column : ℕ) : Type 0 where
  pub bare : All (λ c. c.left ≤ column → column < c.right → ⊥) covers

-- the same among the covers from above and those of the row
pub record IsGapIn (covers own : List Cover) (left right : ℕ) : Type 0 where
  pub some : left < right
  pub bare : (column : ℕ) → left ≤ column → column < right → IsBare covers column × IsBare own column
  pub begins : (column : ℕ) → column + 1 ≡ left → IsBare covers column → IsBare own column → ⊥
  pub ends : IsBare covers right → ⊥

-- the gaps of a row were put after the old ones
pub record AreGapsIn (row : ℕ) (covers own : List Cover) (old new : List Gap) : Type 0 where
  pub more : List Gap
  pub whole : new ≡ old ++ more
  pub each : All (λ g. (g.row ≡ row) × IsGapIn covers own g.left g.right) more
  pub order : AllPairs (λ g h. g.right ≤ h.left) more
  pub all : (left right : ℕ) → IsGapIn covers own left right → Contains more (gap_of row left right)

-- covers passed up to `n`, the last of which ends at `end`
pub record ArePassedBefore (own : List Cover) (next before limit : ℕ) (end n : ℕ) : Type 0 where
  pub from : next ≤ n
  pub within : n ≤ length own
  pub over : n < length own → limit ≤ (cover_at own n).left
  pub none : n ≡ next → end ≡ before
  pub last : next < n → ((cover_at own (n - 1)).left < limit) × (end ≡ (cover_at own (n - 1)).right)
