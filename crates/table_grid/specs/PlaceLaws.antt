-- Words of the laws of places.
use Rattle.std.specs.Prelude.{◌≡◌, ℕ, ◌<◌, ◌≤◌, List, length, get_or}
use Rattle.table_grid.specs.declared.cell.PlacedCell.{PlacedCell}
use Rattle.table_grid.specs.Places.{right_of, bottom_of}
use Rattle.table_grid.specs.Gaps.{IsGap}

abbrev pub placed_at : List PlacedCell → ℕ → PlacedCell
placed_at placed k =
    get_or placed k (record { cell = record { row = 0; colspan = 0; rowspan = 0; size = 0; least = 0 }; left = 0 })

-- the cell stands in the row, by its row span
pub record StandsIn (row : ℕ) (p : PlacedCell) : Type 0 where
  pub upper : p.cell.row ≤ row
  pub reach : row < bottom_of p

-- it takes the column
pub record Takes (column : ℕ) (p : PlacedCell) : Type 0 where
  pub from : p.left ≤ column
  pub to : column < right_of p

-- some gap of the row ends there
pub record HasGapUpTo (placed : List PlacedCell) (row right : ℕ) : Type 0 where
  pub left : ℕ
  pub gap : IsGap placed row left right

-- some cell that stands in the row ends there
pub record HasCellUpTo (placed : List PlacedCell) (row right : ℕ) : Type 0 where
  pub place : ℕ
  pub within : place < length placed
  pub stands : StandsIn row (placed_at placed place)
  pub ends : right_of (placed_at placed place) ≡ right
