-- Shares of a table's columns in a width.
use Rattle.std.specs.Prelude.{ℕ, ◌+◌, ◌-◌, ◌*◌, ◌/◌, ◌^◌, ◌<◌, ◌≤◌, min, max, List, length, map, sum_by, All}
use Rattle.table_grid.specs.declared.columns.Column.{Column}

abbrev pub size_of : Column → ℕ
size_of c = c.size

abbrev pub least_of : Column → ℕ
least_of c = c.least

-- a column's share: of the width in the measure of its size, but its least at least and its size at most
abbrev pub share_of : ℕ → ℕ → Column → ℕ
share_of width total c = min c.size (max (c.size * width / total) c.least)

abbrev pub total_of : List Column → ℕ
total_of columns = sum_by size_of columns

abbrev pub leasts_of : List Column → List ℕ
leasts_of columns = map least_of columns

abbrev pub shares_of : List Column → ℕ → List ℕ
shares_of columns width = map (share_of width (total_of columns)) columns

-- the columns that all leasts and the separators between them take
abbrev pub least_width : List Column → ℕ
least_width columns = sum_by least_of columns + (length columns - 1)

-- columns that have a size, and none asks for more than its size at least
pub record AreSized (columns : List Column) : Type 0 where
  pub some : All (λ c. 0 < c.size) columns
  pub within : All (λ c. c.least ≤ c.size) columns

-- a sum stops at the greatest number of 64 bits
abbrev pub capped : ℕ → ℕ
capped n = min n (2 ^ 64 - 1)

-- a table asks for what its columns ask for together, separators included
abbrev pub table_asks : List Column → Column
table_asks columns = record {
  size = capped (total_of columns + (length columns - 1));
  least = capped (least_width columns);
}
