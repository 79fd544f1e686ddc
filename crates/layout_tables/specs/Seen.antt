-- What contracts see of what the columns of tables ask for.
use Rattle.std.specs.Prelude.{ℕ, ◌<◌, [], IfSome, List, Option, Vec, get_or, length, map}
use Rattle.std.specs.Option.{option_map}
use Rattle.std.specs.declared.alloc.Global.{Global}
use Rattle.column_fits.specs.Across.{AreFits}
use Rattle.column_fits.specs.declared.fit.ColumnFit.{ColumnFit}
use Rattle.table_grid.specs.declared.columns.Column.{Column}

-- for each value of a page, where columns are fitted
abbrev pub all_fits_seen : Option (Vec (Vec ColumnFit Global) Global) → Option (List (List ColumnFit))
all_fits_seen fits = option_map (λ v. map (λ (w : Vec ColumnFit Global). w.items) v.items) fits

-- those of the value at a place
abbrev pub fits_at : Option (List (List ColumnFit)) → (at : ℕ) → Option (List ColumnFit)
fits_at fits at = option_map (λ l. get_or l at []) fits

abbrev pub AreGivenAt : Option (List (List ColumnFit)) → (at : ℕ) → Type 0
AreGivenAt fits at = IfSome fits (λ l. at < length l)

-- each of these columns asks for something
abbrev pub FitColumnsAt : Option (List (List ColumnFit)) → (at : ℕ) → List Column → Type 0
FitColumnsAt fits at columns = IfSome (fits_at fits at) (AreFits columns)
