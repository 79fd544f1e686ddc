-- Words of the laws on rows of cells.
use Rattle.std.specs.Prelude.{◌≡◌, ◌⊎◌, ℕ, ◌+◌, ◌-◌, ◌<◌, ◌≤◌, nat_lt, All, List, [], ◌∷◌, ◌++◌, length, if◌then◌else◌}
use Rattle.text_lines.specs.Tagged.{line_columns}
use Rattle.text_borders.specs.Lines.{BlockLine, text, border}
use Rattle.text_borders.specs.BorderLaws.{IsSound}
use Rattle.text_borders.specs.Across.{Cell, Hanging}

-- the line is within so many columns, and the texts of a border within it
abbrev pub LineFits : {S : Type 0} → ℕ → BlockLine S → Type 0
LineFits width (text items) = line_columns items ≤ width
LineFits width (border b) = IsSound b × (length b.segments ≤ width)

-- a cell keeps its width: its lines are within it
abbrev pub CellFits : {S : Type 0} → Cell S → Type 0
CellFits c = All (λ l. LineFits c.width l.line) c.lines

-- the columns of cells, and of the signs between them
abbrev pub cells_width : {S : Type 0} → List (Cell S) → ℕ
cells_width [] = 0
cells_width (c ∷ []) = c.width
cells_width (c ∷ d ∷ cells) = c.width + 1 + cells_width (d ∷ cells)

-- Each cell that goes on has the place and the columns of one of the cells that are handed in, in order.
abbrev pub AreSeatedIn : {S : Type 0} → ℕ → List (Cell S) → List (Hanging S) → Type 0
AreSeatedIn at cells [] = Unit {0}
AreSeatedIn at [] (h ∷ hanging) = ⊥
AreSeatedIn at (c ∷ cells) (h ∷ hanging) =
    ((h.place ≡ at) × ((h.cell.width ≡ c.width) × AreSeatedIn (at + c.width + 1) cells hanging))
    ⊎ ((at < h.place) × AreSeatedIn (at + c.width + 1) cells (h ∷ hanging))

-- where a cell that goes on stands, its columns, and the rows that it still takes
pub record Seat : Type 0 where
  pub place : ℕ
  pub width : ℕ
  pub rows : ℕ

abbrev pub seat_of : {S : Type 0} → Hanging S → Seat
seat_of h = record { place = h.place; width = h.cell.width; rows = h.cell.rows }

-- of cells from a column on those that take more rows, with one row less
abbrev pub seats_after : {S : Type 0} → ℕ → List (Cell S) → List Seat
seats_after at [] = []
seats_after at (c ∷ cells) =
    (if nat_lt 1 c.rows then (record { place = at; width = c.width; rows = c.rows - 1 }) ∷ [] else [])
    ++ seats_after (at + c.width + 1) cells
