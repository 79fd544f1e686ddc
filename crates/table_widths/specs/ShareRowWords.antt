-- Words of the worked rows.
use Rattle.std.specs.Prelude.{ℕ}
use Rattle.table_grid.specs.declared.columns.Column.{Column}

abbrev pub asks : (size least : ℕ) → Column
asks size least = record { size = size; least = least }
