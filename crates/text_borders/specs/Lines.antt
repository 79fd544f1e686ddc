-- Lines of blocks: text, or a border.
use Rattle.std.specs.Prelude.{ℕ, List, length}
use Rattle.text_lines.specs.Tagged.{Item, line_items, line_columns, IsJoined}
use Rattle.text_borders.specs.Borders.{Border, border_of, shown}
use Rattle.text_borders.specs.declared.render_line.RenderLine.{RenderLine}
use Rattle.text_borders.specs.declared.render_line.RenderLine.TheVariants as code

pub data BlockLine (S : Type 0) : Type 0 where
  text : List (Item S) → BlockLine S
  border : Border S → BlockLine S

abbrev pub render_line_of : {T S : Type 0} → (T → S) → RenderLine T → BlockLine S
render_line_of seen (code.Text line) = text (line_items seen line)
render_line_of seen (code.Line b) = border (border_of seen b)

abbrev pub line_shown : {S : Type 0} → BlockLine S → List (Item S)
line_shown (text items) = items
line_shown (border b) = shown b

abbrev pub line_width : {S : Type 0} → BlockLine S → ℕ
line_width (text items) = line_columns items
line_width (border b) = length b.segments

-- no text of it is empty, and none stands next to one with an equal tag
abbrev pub IsJoinedText : {T S : Type 0} → (T → S) → RenderLine T → Type 0
IsJoinedText seen (code.Text line) = IsJoined seen line
IsJoinedText seen (code.Line b) = Unit {0}
