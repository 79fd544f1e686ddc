-- The text of a block's lines.
use Rattle.std.specs.Prelude.{ℕ, List, [], ◌∷◌, ◌++◌, flat_map}
use Rattle.text_lines.specs.Tagged.{characters}
use Rattle.text_borders.specs.Lines.{BlockLine, line_shown}

-- the characters of a line, and a line end
abbrev pub line_text : {S : Type 0} → BlockLine S → List ℕ
line_text line = characters (line_shown line) ++ 0xA ∷ []

abbrev pub text_of_lines : {S : Type 0} → List (BlockLine S) → List ℕ
text_of_lines lines = flat_map line_text lines
