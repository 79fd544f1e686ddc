-- Gaps of a row: a stretch of columns where no cell stands, before one that a cell from above covers.
use Rattle.std.specs.Prelude.{◌≡◌, ℕ, ◌+◌, ◌<◌, ◌≤◌, ◌⊎◌, List, length, get_or, All, Contains}
use Rattle.std.specs.List.{AllPairs}
use Rattle.table_grid.specs.declared.gaps.Gap.{Gap}
use Rattle.table_grid.specs.declared.cell.PlacedCell.{PlacedCell}
use Rattle.table_grid.specs.Places.{right_of, bottom_of, IsFree}

-- neither a cell of this row nor one from above stands in the column
pub record IsVacant (placed : List PlacedCell) (row column : ℕ) : Type 0 where
  pub vacant : All (λ p. p.cell.row ≤ row → row < bottom_of p → p.left ≤ column → column < right_of p → ⊥) placed

-- a gap before a covered place
pub record IsGap (placed : List PlacedCell) (row left right : ℕ) : Type 0 where
  pub some : left < right
  pub vacant : (column : ℕ) → left ≤ column → column < right → IsVacant placed row column
  pub begins : (column : ℕ) → column + 1 ≡ left → IsVacant placed row column → ⊥
  pub ends : IsFree placed row right → ⊥

-- a cell begins in the row
pub record BeginsIn (placed : List PlacedCell) (row : ℕ) : Type 0 where
  pub place : ℕ
  pub lt : place < length placed
  pub at : (d : PlacedCell) → (get_or placed place d).cell.row ≡ row

abbrev pub gap_of : ℕ → ℕ → ℕ → Gap
gap_of row left right = record { row = row; left = left; right = right }

-- it stands in an earlier row, or before in the same
abbrev pub IsBefore : Gap → Gap → Type 0
IsBefore g h = (g.row < h.row) ⊎ ((g.row ≡ h.row) × (g.right ≤ h.left))

-- the gaps of the rows in which a cell begins, in order
pub record AreGaps (placed : List PlacedCell) (gaps : List Gap) : Type 0 where
  pub begin : All (λ g. BeginsIn placed g.row) gaps
  pub each : All (λ g. IsGap placed g.row g.left g.right) gaps
  pub order : AllPairs IsBefore gaps
  pub all : (row left right : ℕ) → BeginsIn placed row → IsGap placed row left right →
      Contains gaps (gap_of row left right)
