-- What the iterators over a line have left.
use Rattle.std.specs.Prelude.{ℕ, List, ◌++◌, chars}
use Rattle.text_lines.specs.declared.tagged_string.TaggedString.{TaggedString}
use Rattle.text_lines.specs.declared.line_iterators.LineChars.{LineChars}
use Rattle.text_lines.specs.declared.line_iterators.TaggedStrings.{TaggedStrings}
use Rattle.text_lines.specs.Elements.{elements_text, elements_strings}

-- the characters that are still to come
abbrev pub chars_left : {T : Type 0} → LineChars T → List ℕ
chars_left it = chars it.text.now ++ elements_text it.elements.now

-- the texts that are still to come
abbrev pub strings_left : {T : Type 0} → TaggedStrings T → List (TaggedString T)
strings_left it = elements_strings it.elements.now
