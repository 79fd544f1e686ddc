-- The widths of fitted columns where the rows of their table lie across.
use Rattle.std.specs.Prelude.{ℕ, ◌≤◌, [], ◌∷◌, List, None, Option, Some, if◌then◌else◌, map, nat_le, nat_lt}
use Rattle.table_grid.specs.declared.columns.Column.{Column}
use Rattle.table_widths.specs.Shares.{least_width, leasts_of}
use Rattle.table_widths.specs.TheWidths.{widths_of}
use Rattle.table_widths.specs.Widths.{columns_of}
use Rattle.table_widths.specs.declared.column.ColumnShare.{ColumnShare}
use Rattle.column_fits.specs.Fits.{high_of, low_of, low_width}
use Rattle.column_fits.specs.declared.fit.ColumnFit.{ColumnFit}

-- Where the lows fit, no column has less, and each may take its high; else no column has less than its least, and each
-- may take its low: so the longest words are cut, and no others.
abbrev pub shares_of : List Column → List ColumnFit → (width : ℕ) → List ColumnShare
shares_of columns fits width = if nat_le (low_width fits) width then columns_of (map low_of fits) (map high_of fits)
    else columns_of (leasts_of columns) (map low_of fits)

-- none where not even the leasts fit
unfoldable pub fitted_across : List Column → List ColumnFit → (width : ℕ) → Option (List ℕ)
fitted_across columns fits width =
    if nat_lt width (least_width columns) then None else Some (widths_of (shares_of columns fits width) width)

-- what columns ask for: each its least or more, and a column, and no more at the least than at the most
pub record IsFit (column : Column) (fit : ColumnFit) : Type 0 where
  pub least : column.least ≤ fit.low
  pub some : 1 ≤ fit.low
  pub within : fit.low ≤ fit.high

abbrev pub AreFits : List Column → List ColumnFit → Type 0
AreFits [] [] = Unit {0}
AreFits [] (f ∷ fits) = ⊥
AreFits (c ∷ columns) [] = ⊥
AreFits (c ∷ columns) (f ∷ fits) = IsFit c f × AreFits columns fits
