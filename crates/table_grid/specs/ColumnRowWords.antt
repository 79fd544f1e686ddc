-- Words of the worked rows.
use Rattle.std.specs.Prelude.{ℕ}
use Rattle.table_grid.specs.declared.part.Part.{Part}

abbrev pub asks : (first last value : ℕ) → Part
asks first last value = record { first = first; last = last; value = value }
