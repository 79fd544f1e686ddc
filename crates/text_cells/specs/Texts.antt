-- Texts of a block, and lines with content.
use Rattle.std.specs.Prelude.{ℕ, ◌+◌, ◌≤◌, List, [], ◌∷◌, All, if◌then◌else◌}
use Rattle.text_lines.specs.Columns.{text_columns}
use Rattle.text_lines.specs.Tagged.{line_items, line_text}
use Rattle.text_borders.specs.Lines.{BlockLine, text, render_line_of}
use Rattle.text_borders.specs.Across.{CellLine, widened}
use Rattle.text_pieces.specs.Items.{has_text}
use Rattle.text_cells.specs.declared.laid_line.LaidLine.{LaidLine}
use Rattle.text_cells.specs.declared.laid_line.LaidText.{LaidText}

abbrev pub laid_line_of : {T S : Type 0} → (T → S) → LaidLine T → CellLine S
laid_line_of seen l = record { line = render_line_of seen l.line; content = l.content }

abbrev pub laid_text_of : {T S : Type 0} → (T → S) → LaidText T → CellLine S
laid_text_of seen t = record { line = text (line_items seen t.line); content = t.content }

-- a text of at least so many columns
abbrev pub IsWide : {T : Type 0} → ℕ → LaidText T → Type 0
IsWide columns t = columns ≤ text_columns (line_text t.line)

abbrev pub AreWide : {T : Type 0} → ℕ → List (LaidText T) → Type 0
AreWide columns texts = All (IsWide columns) texts

-- how many texts, and how many lines, have content
abbrev pub text_count : {T : Type 0} → List (LaidText T) → ℕ
text_count [] = 0
text_count (t ∷ texts) = (if t.content then 1 else 0) + text_count texts

abbrev pub content_count : {T : Type 0} → List (LaidLine T) → ℕ
content_count [] = 0
content_count (l ∷ lines) = (if l.content then 1 else 0) + content_count lines

-- A line as it stands in a row of one cell: a text of its columns. It has content where it has a character, be it a
-- space that fills it.
abbrev pub row_text : {S : Type 0} → ℕ → S → BlockLine S → CellLine S
row_text width tag line =
    record { line = text (widened width tag line); content = has_text (widened width tag line) }

abbrev pub in_row : {S : Type 0} → ℕ → S → CellLine S → CellLine S
in_row width tag l = row_text width tag l.line
