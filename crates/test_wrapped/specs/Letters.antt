-- The letters of some texts, joined.
use Rattle.std.specs.Prelude.{List, [], ◌∷◌, ◌++◌, chars, string_bytes}
use Rattle.text_lines.specs.declared.tagged_string.TaggedString.{TaggedString}
use Rattle.text_normal.specs.Units.{Letter, lettered}

abbrev pub letters_of : {T S : Type 0} → (T → S) → List (TaggedString T) → List (Letter S)
letters_of seen [] = []
letters_of seen (p ∷ ps) = lettered (chars (string_bytes p.s)) (seen p.tag) ++ letters_of seen ps
