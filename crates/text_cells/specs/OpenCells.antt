-- What private contracts see of open cells, and words between the code's steps and those of the definition.
use Rattle.std.specs.Prelude.{◌≡◌, ◌≤◌, ◌+◌, ◌-◌, [], ◌∷◌, if◌then◌else◌, All, Bool, List, None, Option, Some, drop}
use Rattle.std.specs.Prelude.{false, length, map, nat_le, nat_lt, ℕ}
use Rattle.std.specs.Option.{option_map}
use Rattle.text_lines.specs.Tagged.{Item, character, line_items}
use Rattle.text_borders.specs.Segments.{Segment, joins_above, joins_below}
use Rattle.text_borders.specs.Borders.{Border, border_of, columns_where}
use Rattle.text_borders.specs.Across.{Cell, CellLine, Hanging, OpenCell as SeenCell, Row, empty_cell, further, goes_on}
use Rattle.text_borders.specs.Across.{is_given, opened, row_of, spaces}
use Rattle.text_cells.specs.Texts.{laid_line_of}
use Rattle.text_lines.specs.declared.tagged_line.TaggedLine.{TaggedLine}
use Rattle.text_cells.specs.declared.opening.OpenCell.{OpenCell}

-- the columns at which a border that was taken out asks for a join
abbrev pub asked : {S : Type 0} → (Segment → Bool) → Option (Border S) → List ℕ
asked is None = []
asked is (Some b) = columns_where is 0 b.segments

-- what fills an open cell: spaces, where nothing else is to
abbrev pub filling_of : {T S : Type 0} → (T → S) → ℕ → T → Option (TaggedLine T) → List (Item S)
filling_of seen width tag None = spaces width (seen tag)
filling_of seen width tag (Some line) = line_items seen line

abbrev pub open_cell_of : {T S : Type 0} → (T → S) → OpenCell T → SeenCell S
open_cell_of seen c = record {
  width = c.width;
  rows = c.rows;
  lines = map (laid_line_of seen) c.lines;
  filler = filling_of seen c.width c.space_tag c.filler;
  asks_above = asked joins_below (option_map (border_of seen) c.top);
  asks_below = asked joins_above (option_map (border_of seen) c.bottom);
}

abbrev pub with_lines : {S : Type 0} → List (CellLine S) → SeenCell S → SeenCell S
with_lines lines c = record c { lines = lines }

-- an open cell whose first lines were taken
abbrev pub after : {S : Type 0} → ℕ → SeenCell S → SeenCell S
after i c = record c { lines = drop i c.lines }

-- the columns after cells
abbrev pub ends : {S : Type 0} → ℕ → List (SeenCell S) → List ℕ
ends at [] = []
ends at (c ∷ cells) = (at + c.width) ∷ ends (at + c.width + 1) cells

-- the first of the hanging cells stands at a column or before it
abbrev pub hangs_at : {S : Type 0} → ℕ → List (Hanging S) → Bool
hangs_at at [] = false
hangs_at at (h ∷ hanging) = nat_le h.place at

-- what stands in a gap before a cell
abbrev pub gap : {S : Type 0} → ℕ → ℕ → List (Cell S)
gap at place = if nat_lt at place then empty_cell (place - at - 1) ∷ [] else []

-- what a cell that stands at a column leaves to the next row
abbrev pub left_at : {S : Type 0} → ℕ → SeenCell S → List (Hanging S)
left_at at c = if goes_on c then (record { place = at; cell = further 0 c }) ∷ [] else []

-- an open cell in the next row
abbrev pub next_cell : {S : Type 0} → SeenCell S → Cell S
next_cell c = record { width = c.width; rows = c.rows - 1; lines = c.lines }

-- what stands after a cell, so many of which follow it
abbrev pub sign_before : {S : Type 0} → ℕ → S → ℕ → List (Item S)
sign_before sign tag count = if nat_lt 0 count then character sign tag ∷ [] else []

-- a row of cells among which those that go on are seated
abbrev pub seated_across : {S : Type 0} → Bool → Bool → S → Option (Border S) → List (Cell S) → Row S
seated_across draws collapse tag above cells =
    row_of draws tag above (map (opened collapse (is_given above) tag) cells)

-- a cell without lines between borders that were its first and its last line
abbrev pub bare_cell : {S : Type 0} → ℕ → ℕ → S → Option (Border S) → Option (Border S) → SeenCell S
bare_cell width rows tag top bottom = record {
  width = width;
  rows = rows;
  lines = [];
  filler = spaces width tag;
  asks_above = asked joins_below top;
  asks_below = asked joins_above bottom;
}

-- a single cell that goes on into no other row
pub record IsAlone {S : Type 0} (cells : List (Cell S)) : Type 0 where
  pub single : length cells ≡ 1
  pub ends : All (λ c. c.rows ≤ 1) cells
