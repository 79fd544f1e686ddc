-- What contracts see of lines, cells and rows.
use Rattle.std.specs.Prelude.{◌≡◌, ℕ, ◌+◌, List, [], ◌∷◌, ◌++◌, map, All}
use Rattle.std.specs.Option.{option_map}
use Rattle.text_lines.specs.Tagged.{Item, line_items, IsJoined}
use Rattle.text_borders.specs.Borders.{border_of}
use Rattle.text_borders.specs.Lines.{IsJoinedText}
use Rattle.text_borders.specs.Across.{CellLine, Cell, Hanging, Row as SeenRow}
use Rattle.text_pieces.specs.Items.{has_text}
use Rattle.text_cells.specs.declared.laid_line.LaidLine.{LaidLine}
use Rattle.text_cells.specs.declared.wide_texts.WideTexts.{WideTexts}
use Rattle.text_cells.specs.declared.part.Part.{Part}
use Rattle.text_cells.specs.declared.block_lines.BlockLines.{BlockLines}
use Rattle.text_cells.specs.declared.cell.LineSet.{LineSet}
use Rattle.text_cells.specs.declared.cell.HangingCell.{HangingCell}
use Rattle.text_cells.specs.declared.cell.RowLines.{RowLines}
use Rattle.text_cells.specs.declared.cell.RowLines.TheVariants as rows
use Rattle.text_cells.specs.declared.cell.Row.{Row}
pub use Rattle.text_cells.specs.Texts.{laid_line_of, laid_text_of, text_count, content_count}

abbrev pub texts_of : {T S : Type 0} → (T → S) → WideTexts T → List (CellLine S)
texts_of seen w = map (laid_text_of seen) w.lines.items

abbrev pub part_lines : {T S : Type 0} → (T → S) → Part T → List (CellLine S)
part_lines seen p = map (laid_line_of seen) p.before.items ++ texts_of seen p.texts

abbrev pub parts_lines : {T S : Type 0} → (T → S) → List (Part T) → List (CellLine S)
parts_lines seen [] = []
parts_lines seen (p ∷ parts) = part_lines seen p ++ parts_lines seen parts

abbrev pub block_lines_of : {T S : Type 0} → (T → S) → BlockLines T → List (CellLine S)
block_lines_of seen b = parts_lines seen b.parts.items ++ map (laid_line_of seen) b.lines

-- how many lines have content
abbrev pub texts_content : {T : Type 0} → WideTexts T → ℕ
texts_content w = text_count w.lines.items

abbrev pub parts_content : {T : Type 0} → List (Part T) → ℕ
parts_content [] = 0
parts_content (p ∷ parts) = content_count p.before.items + texts_content p.texts + parts_content parts

abbrev pub block_content : {T : Type 0} → BlockLines T → ℕ
block_content b = parts_content b.parts.items + content_count b.lines

-- No text of the lines is empty, and none stands next to one with an equal tag. A border is joined where it is made
-- text, and wide texts where they are taken one by one.
abbrev pub AreLinesJoined : {T S : Type 0} → (T → S) → List (LaidLine T) → Type 0
AreLinesJoined seen lines = All (λ l. IsJoinedText seen l.line) lines

abbrev pub AreBlockLinesJoined : {T S : Type 0} → (T → S) → BlockLines T → Type 0
AreBlockLinesJoined seen b =
    All (λ p. AreLinesJoined seen p.before.items) b.parts.items × AreLinesJoined seen b.lines

abbrev pub cell_of : {T S : Type 0} → (T → S) → LineSet T → Cell S
cell_of seen c = record { width = c.width; rows = c.rows; lines = block_lines_of seen c.lines }

abbrev pub hanging_of : {T S : Type 0} → (T → S) → HangingCell T → Hanging S
hanging_of seen h = record { place = h.place; cell = cell_of seen h.cell }

abbrev pub texts_items : {T S : Type 0} → (T → S) → WideTexts T → List (List (Item S))
texts_items seen w = map (λ t. line_items seen t.line) w.lines.items

-- each of the texts has content where it has a character
abbrev pub HaveTextContent : {T S : Type 0} → (T → S) → WideTexts T → Type 0
HaveTextContent seen w = All (λ t. t.content ≡ has_text (line_items seen t.line)) w.lines.items

abbrev pub row_lines_of : {T S : Type 0} → (T → S) → RowLines T → List (List (Item S))
row_lines_of seen (rows.Each lines) = map (line_items seen) lines.items
row_lines_of seen (rows.Wide texts) = texts_items seen texts

-- The lines of a row are joined, or are wide texts, each of which has content where it has a character.
abbrev pub AreRowLines : {T S : Type 0} → (T → S) → RowLines T → Type 0
AreRowLines seen (rows.Each lines) = All (IsJoined seen) lines.items
AreRowLines seen (rows.Wide texts) = HaveTextContent seen texts

abbrev pub row_of : {T S : Type 0} → (T → S) → Row T → SeenRow S
row_of seen row = record {
  above = option_map (border_of seen) row.above;
  lines = row_lines_of seen row.lines;
  below = border_of seen row.below;
  hanging = map (hanging_of seen) row.hanging.items;
}
