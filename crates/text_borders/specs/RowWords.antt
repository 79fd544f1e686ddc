-- Words of the worked rows.
use Rattle.std.specs.Prelude.{ℕ, true, false, List, [], ◌∷◌, ◌++◌, Option, None, Some, map, replicate}
use Rattle.text_lines.specs.Tagged.{characters, tagged}
use Rattle.text_borders.specs.Borders.{Border, horizontal, plain, joined_above, joined_below, shown}
use Rattle.text_borders.specs.Lines.{text, border}
use Rattle.text_borders.specs.Across.{CellLine, Cell, Row, across}

abbrev pub above_shown : {S : Type 0} → Option (Border S) → List (List ℕ)
above_shown None = []
above_shown (Some b) = characters (shown b) ∷ []

-- the border above, the lines and the border below, as characters
abbrev pub row_shown : {S : Type 0} → Row S → List (List ℕ)
row_shown r = above_shown r.above ++ (map characters r.lines ++ characters (shown r.below) ∷ [])

abbrev pub text_line : {S : Type 0} → S → List ℕ → CellLine S
text_line tag cs = record { line = text (tagged cs tag); content = true }

abbrev pub border_line : {S : Type 0} → Border S → CellLine S
border_line b = record { line = border b; content = true }

abbrev pub cell : {S : Type 0} → S → ℕ → ℕ → List ℕ → Cell S
cell tag width rows cs = record { width = width; rows = rows; lines = text_line tag cs ∷ [] }

-- a cell of several lines
abbrev pub tall_cell : {S : Type 0} → S → ℕ → ℕ → List (List ℕ) → Cell S
tall_cell tag width rows texts = record { width = width; rows = rows; lines = map (text_line tag) texts }

-- a cell of so many empty lines
abbrev pub blank_cell : {S : Type 0} → ℕ → ℕ → Cell S
blank_cell width count = record {
  width = width;
  rows = 1;
  lines = replicate count (record { line = text []; content = false });
}

-- a cell with a table of two columns of one column each
abbrev pub table_cell : {S : Type 0} → S → List ℕ → Cell S
table_cell tag cs = record {
  width = 3;
  rows = 1;
  lines = border_line (joined_below 1 (plain horizontal 3 tag)) ∷ text_line tag cs
      ∷ border_line (joined_above 1 (plain horizontal 3 tag)) ∷ [];
}

-- rows below a border without joins
abbrev pub first_row : {S : Type 0} → S → ℕ → List (Cell S) → Row S
first_row tag width cells = across true true tag (Some (plain horizontal width tag)) cells []

abbrev pub next_row : {S : Type 0} → S → Row S → List (Cell S) → Row S
next_row tag r cells = across true true tag (Some r.below) cells r.hanging
