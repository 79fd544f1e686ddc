-- A paragraph's text as calls of a block of lines.
use Rattle.std.specs.Prelude.{ℕ, false, List, [], ◌∷◌, Option, Some}
use Rattle.std.specs.Option.{option_and_then}
use Rattle.block_layout.specs.Laid.{Laid, Running, add_text, break_line, flush}
use Rattle.block_layout.specs.declared.measure.Measure.{Measure}
use Rattle.text_borders.specs.Across.{CellLine, Hanging}
use Rattle.text_borders.specs.Lines.{text}
use Rattle.text_pieces.specs.declared.white_space.WhiteSpace.TheVariants.{Normal}
use Rattle.article_definitions.specs.Layouts.{Line, Options, Part, Tag, breaks, outermost, says, wrap_at}

abbrev pub measure : Options → ℕ → Measure
measure o width = record { width = width; wrap_width = wrap_at o width; overflow = false; pads = o.pads }

-- each part is a call, by the words of block_layout
abbrev pub run : Measure → List Part → Laid Tag → Option (Laid Tag)
run m [] b = Some b
run m (says cs tag ∷ parts) b = option_and_then (run m parts) (add_text m tag Normal cs tag tag b)
run m (breaks tag ∷ parts) b = option_and_then (run m parts) (break_line m tag b)

-- all of them, and the text that runs is laid out
abbrev pub run_whole : Measure → List Part → Laid Tag → Option (Laid Tag)
run_whole m parts b = option_and_then (flush m outermost) (run m parts b)

abbrev pub cell_of : Line → CellLine Tag
cell_of l = record { line = text l.items; content = l.content }

-- a block with these lines, in which no marker waits
abbrev pub block_with : List (CellLine Tag) → Option (Running Tag) → List (Hanging Tag) → Laid Tag
block_with lines running hanging =
    record { lines = lines; running = running; awaits = false; markers = []; hanging = hanging }
