-- The text of lines: what the program writes.
use Rattle.std.specs.Prelude.{ℕ, List, [], ◌∷◌, ◌++◌, flat_map}
use Rattle.text_lines.specs.Tagged.{element_text, line_elements}
use Rattle.text_lines.specs.declared.tagged_line.TaggedLine.{TaggedLine}
use Rattle.text_lines.specs.declared.tagged_string.TaggedLineElement.{TaggedLineElement}

-- a newline
abbrev pub newline : List ℕ
newline = 10 ∷ []

-- the bytes of elements' texts, one after the other
abbrev pub elements_bytes : {T : Type 0} → List (TaggedLineElement T) → List ℕ
elements_bytes es = flat_map element_text es

-- the bytes of a line's text, and a newline
abbrev pub line_bytes : {T : Type 0} → TaggedLine T → List ℕ
line_bytes line = elements_bytes (line_elements line) ++ newline

abbrev pub lines_bytes : {T : Type 0} → List (TaggedLine T) → List ℕ
lines_bytes lines = flat_map line_bytes lines
