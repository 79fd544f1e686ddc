-- The widths of a table's columns where its rows lie across.
use Rattle.std.specs.Prelude.{◌≡◌, ℕ, ◌+◌, ◌-◌, ◌≤◌, nat_lt, if◌then◌else◌, List, Option, None, Some, length, sum}
use Rattle.table_widths.specs.TheWidths.{widths_of}
use Rattle.table_widths.specs.Widths.{columns_of}
use Rattle.table_widths.specs.Shares.{least_width, leasts_of, shares_of}
use Rattle.table_grid.specs.declared.columns.Column.{Column}

-- none where not even the leasts fit
unfoldable pub widths_across : List Column → (width : ℕ) → Option (List ℕ)
widths_across columns width =
    if nat_lt width (least_width columns) then None
    else Some (widths_of (columns_of (leasts_of columns) (shares_of columns width)) width)

-- one for each column, and with separators no more than the width
pub record FitAcross (columns : List Column) (width : ℕ) (widths : List ℕ) : Type 0 where
  pub same : length widths ≡ length columns
  pub fit : sum widths + (length widths - 1) ≤ width
