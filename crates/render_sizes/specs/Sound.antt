-- What holds of all that is measured.
use Rattle.std.specs.Prelude.{ℕ, ◌-◌, ◌^◌, ◌<◌, ◌≤◌, All, List, [], ◌∷◌}
use Rattle.std.specs.List.Sorted.{IsNonDecreasingBy}
use Rattle.render_sizes.specs.Extents.{Measured}
use Rattle.table_grid.specs.declared.cell.Cell.{Cell}

-- a cell in a row from a first to a last, that spans something, and asks for no more at least than in all
pub record IsCell (from to : ℕ) (c : Cell) : Type 0 where
  pub trailing : from ≤ c.row
  pub within : c.row ≤ to
  pub some : 0 < c.colspan
  pub tall : 0 < c.rowspan
  pub content : c.least ≤ c.size

-- such cells, row by row
abbrev pub AreCells : (from to : ℕ) → List Cell → Type 0
AreCells from to [] = Unit {0}
AreCells from to (c ∷ cells) = IsCell from to c × AreCells c.row to cells

pub record IsSound (m : Measured) : Type 0 where
  pub content : m.extent.least ≤ m.extent.size
  pub fits : m.extent.size ≤ 2 ^ 64 - 1
  pub cells : AreCells 0 m.rows m.cells

-- what a table's grid asks of its cells, and its rows
pub record AreTableCells (cells : List Cell) (count : ℕ) : Type 0 where
  pub rows : IsNonDecreasingBy (λ c. c.row) cells
  pub some : All (λ c. 0 < c.colspan) cells
  pub tall : All (λ c. 0 < c.rowspan) cells
  pub content : All (λ c. c.least ≤ c.size) cells
  pub begun : All (λ c. 0 < c.row) cells
  pub within : All (λ c. c.row ≤ count) cells
