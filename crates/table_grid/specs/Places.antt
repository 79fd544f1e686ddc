-- Where the cells of a table stand (WHATWG HTML, 4.9.12.1, but that a whole column span has to be free).
use Rattle.std.specs.Prelude.{◌≡◌, ℕ, ◌+◌, ◌<◌, ◌≤◌, List, length, get_or, take, map, All}
use Rattle.table_grid.specs.declared.cell.Cell.{Cell}
use Rattle.table_grid.specs.declared.cell.PlacedCell.{PlacedCell}

abbrev pub cell_of : PlacedCell → Cell
cell_of p = p.cell

abbrev pub left_of : PlacedCell → ℕ
left_of p = p.left

-- the column after its last
abbrev pub right_of : PlacedCell → ℕ
right_of p = p.left + p.cell.colspan

-- the row after its last
abbrev pub bottom_of : PlacedCell → ℕ
bottom_of p = p.cell.row + p.cell.rowspan

-- no row span from above covers this column in this row
pub record IsFree (before : List PlacedCell) (row column : ℕ) : Type 0 where
  pub free : All (λ p. p.cell.row < row → row < bottom_of p → p.left ≤ column → column < right_of p → ⊥) before

-- a cell may begin here: after the cells before it in its row, its whole column span free of row spans from above
pub record Fits (before : List PlacedCell) (cell : Cell) (start : ℕ) : Type 0 where
  pub trailing : All (λ p. p.cell.row ≡ cell.row → right_of p ≤ start) before
  pub free : (column : ℕ) → start ≤ column → column < start + cell.colspan → IsFree before cell.row column

-- a cell begins at the first column where it may
pub record IsPlace (before : List PlacedCell) (cell : Cell) (start : ℕ) : Type 0 where
  pub fits : Fits before cell start
  pub first : (earlier : ℕ) → Fits before cell earlier → start ≤ earlier

-- the cells of a table, row by row, each in its place
pub record ArePlaced (cells : List Cell) (placed : List PlacedCell) : Type 0 where
  pub same : map cell_of placed ≡ cells
  pub each : (k : ℕ) (d : PlacedCell) → k < length placed →
      IsPlace (take k placed) (get_or placed k d).cell (get_or placed k d).left
