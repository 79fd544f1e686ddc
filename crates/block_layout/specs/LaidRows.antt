-- Rows of cells in a block.
use Rattle.std.specs.Prelude.{ℕ, Bool, List, [], ◌∷◌, ◌++◌, Option, None, Some, fold, if◌then◌else◌}
use Rattle.std.specs.Option.{option_map}
use Rattle.text_lines.specs.Tagged.{Item}
use Rattle.text_pieces.specs.Items.{has_text}
use Rattle.text_borders.specs.Borders.{Border, plain}
use Rattle.text_borders.specs.Lines.{BlockLine, text, border}
use Rattle.text_borders.specs.Across.{CellLine, Cell, Row, across}
pub use Rattle.text_cells.specs.Ends.{border_line, last_border}
use Rattle.block_layout.specs.declared.measure.Measure.{Measure}
use Rattle.block_layout.specs.Laid.{Laid, add_line, add_border, without_hanging, flush}

-- the lines before the last
abbrev pub before_last : {A : Type 0} → List A → List A
before_last [] = []
before_last (x ∷ []) = []
before_last (x ∷ y ∷ rest) = x ∷ before_last (y ∷ rest)

abbrev pub without_last_border : {S : Type 0} → Option (Border S) → Laid S → Laid S
without_last_border None b = b
without_last_border (Some above) b = record b { lines = before_last b.lines }

-- a line that was taken off is put back, unless it is a border
abbrev pub put_back : {S : Type 0} → BlockLine S → CellLine S → Laid S → Laid S
put_back (text items) l b = record b { lines = b.lines ++ l ∷ [] }
put_back (border above) l b = b

abbrev pub with_border : {S : Type 0} → Option (Border S) → Laid S → Laid S
with_border None b = b
with_border (Some new) b = add_border new b

-- A line of a row has content where it has a character, be it a space that a cell is filled with.
abbrev pub add_row_line : {S : Type 0} → Measure → S → Laid S → List (Item S) → Laid S
add_row_line m tag b line = add_line m tag (has_text line) line b

abbrev pub add_row_lines : {S : Type 0} → Measure → S → List (List (Item S)) → Laid S → Laid S
add_row_lines m tag lines b = fold (add_row_line m tag) b lines

-- a row stands in the block: the border above it, its lines, and the border below it where borders are drawn
abbrev pub with_row : {S : Type 0} → Measure → S → Bool → Row S → Laid S → Laid S
with_row m tag draws row b =
    record (with_border (if draws then Some row.below else None)
    (add_row_lines m tag row.lines (with_border row.above b))) { hanging = row.hanging }

-- cells beside one another: the last line, where it is a border, is the one above them
abbrev pub row_laid : {S : Type 0} → Measure → S → Bool → Bool → List (Cell S) → Laid S → Laid S
row_laid m tag draws collapse cells b =
    let above = last_border b.lines in
    with_row m tag draws (across draws collapse tag above cells b.hanging)
    (without_hanging (without_last_border above b))

abbrev pub add_row : {S : Type 0} → Measure → S → Bool → Bool → List (Cell S) → Laid S → Option (Laid S)
add_row m tag draws collapse cells b = option_map (row_laid m tag draws collapse cells) (flush m tag b)

-- the border of slashes between cells that stand below one another
abbrev pub add_slashes : {S : Type 0} → ℕ → S → Laid S → Laid S
add_slashes width tag b = add_border (plain None width tag) b
