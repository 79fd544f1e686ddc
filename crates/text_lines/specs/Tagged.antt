-- What contracts see of a tagged line.
use Rattle.std.specs.Prelude.{ℕ, List}
use Rattle.text_lines.specs.Columns.{text_columns}
use Rattle.text_lines.specs.declared.tagged_string.TaggedString.{TaggedString}
use Rattle.text_lines.specs.declared.tagged_string.TaggedLineElement.{TaggedLineElement}
use Rattle.text_lines.specs.declared.tagged_line.TaggedLine.{TaggedLine}
pub use Rattle.text_lines.specs.Elements.{Item, character, marker, tagged, characters, element_items, elements_items}
pub use Rattle.text_lines.specs.Elements.{element_text, elements_text, elements_strings, AreJoined, MapsTag, MapsTags}
pub use Rattle.text_lines.specs.Elements.{Copies, CopiesAll, reitem}

-- the columns of a line: the sum over its characters
abbrev pub line_columns : {S : Type 0} → List (Item S) → ℕ
line_columns line = text_columns (characters line)

abbrev pub line_items : {T S : Type 0} → (T → S) → TaggedLine T → List (Item S)
line_items seen line = elements_items seen line.elements.items

-- the texts and markers of a line, in order
abbrev pub line_elements : {T : Type 0} → TaggedLine T → List (TaggedLineElement T)
line_elements line = line.elements.items

-- the characters of a line's texts
abbrev pub line_text : {T : Type 0} → TaggedLine T → List ℕ
line_text line = elements_text line.elements.items

-- the texts of a line with their tags
abbrev pub line_strings : {T : Type 0} → TaggedLine T → List (TaggedString T)
line_strings line = elements_strings line.elements.items

-- no text of the line is empty, and none stands next to a text with an equal tag
abbrev pub IsJoined : {T S : Type 0} → (T → S) → TaggedLine T → Type 0
IsJoined seen line = AreJoined seen line.elements.items
