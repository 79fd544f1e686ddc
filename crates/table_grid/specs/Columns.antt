-- What the cells of a table ask of each column.
use Rattle.std.specs.Prelude.{◌<◌, ◌≤◌, ◌&&◌, [], ◌∷◌, All, Bool, List, filter, map, max, nat_le, nat_lt, ℕ}
use Rattle.std.specs.List.{range_with_len}
use Rattle.table_grid.specs.declared.part.Part.{Part}

-- the cell covers this column
abbrev pub covers : ℕ → Part → Bool
covers column p = nat_le p.first column && nat_lt column p.last

abbrev pub value_of : Part → ℕ
value_of p = p.value

-- the greatest of numbers, 0 of none
unfoldable pub greatest : List ℕ → ℕ
greatest [] = 0
greatest (x ∷ xs) = max x (greatest xs)

-- the greatest of what the cells that cover a column ask of it
unfoldable pub greatest_at : List Part → ℕ → ℕ
greatest_at parts column = greatest (map value_of (filter (covers column) parts))

-- for each column
abbrev pub greatest_parts_of : List Part → ℕ → List ℕ
greatest_parts_of parts count = map (greatest_at parts) (range_with_len 0 count)

-- cells within the columns, each of one column or more
pub record AreWithin (parts : List Part) (count : ℕ) : Type 0 where
  pub some : All (λ p. p.first < p.last) parts
  pub within : All (λ p. p.last ≤ count) parts
