-- Borders, lines, cells and rows under other tags.
use Rattle.std.specs.Prelude.{map}
use Rattle.std.specs.Option.{option_map}
use Rattle.text_borders.specs.Borders.{Border, Hole}
use Rattle.text_borders.specs.Lines.{BlockLine, text, border}
use Rattle.text_borders.specs.Across.{CellLine, Cell, Hanging, OpenCell, Row}
pub use Rattle.text_pieces.specs.Retagged.{reitem}

abbrev pub rehole : {A B : Type 0} → (A → B) → Hole A → Hole B
rehole f h = record { place = h.place; items = map (reitem f) h.items }

abbrev pub reborder : {A B : Type 0} → (A → B) → Border A → Border B
reborder f b = record { segments = b.segments; tag = f b.tag; holes = map (rehole f) b.holes }

abbrev pub reline : {A B : Type 0} → (A → B) → BlockLine A → BlockLine B
reline f (text items) = text (map (reitem f) items)
reline f (border b) = border (reborder f b)

abbrev pub recell_line : {A B : Type 0} → (A → B) → CellLine A → CellLine B
recell_line f l = record { line = reline f l.line; content = l.content }

abbrev pub recell : {A B : Type 0} → (A → B) → Cell A → Cell B
recell f c = record { width = c.width; rows = c.rows; lines = map (recell_line f) c.lines }

abbrev pub rehanging : {A B : Type 0} → (A → B) → Hanging A → Hanging B
rehanging f h = record { place = h.place; cell = recell f h.cell }

abbrev pub reopen : {A B : Type 0} → (A → B) → OpenCell A → OpenCell B
reopen f c = record {
  width = c.width;
  rows = c.rows;
  lines = map (recell_line f) c.lines;
  filler = map (reitem f) c.filler;
  asks_above = c.asks_above;
  asks_below = c.asks_below;
}

abbrev pub rerow : {A B : Type 0} → (A → B) → Row A → Row B
rerow f row = record {
  above = option_map (reborder f) row.above;
  lines = map (map (reitem f)) row.lines;
  below = reborder f row.below;
  hanging = map (rehanging f) row.hanging;
}
