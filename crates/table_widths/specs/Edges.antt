-- The narrowest width, in leasts, of the columns at a level that are lowered by one more.
use Rattle.std.specs.Prelude.{ℕ, ◌≤◌, List}
use Rattle.table_widths.specs.declared.column.ColumnShare.{ColumnShare}
use Rattle.table_widths.specs.Widths.{wider}

-- the least of the leasts such that at most `less` columns at the level are wider
pub record IsEdge (columns : List ColumnShare) (level less edge : ℕ) : Type 0 where
  pub within : wider level edge columns ≤ less
  pub least : (lower : ℕ) → wider level lower columns ≤ less → edge ≤ lower
