-- How a colour is written.
use Rattle.std.specs.Prelude.{ℕ, ◌/◌, ◌%◌, false, List, [], ◌∷◌, ◌++◌, codes}
use Rattle.std.specs.Fmt.{digit_glyph}
use Rattle.text_decorators.specs.declared.colour.Colour.{Colour}

-- the two lower hexadecimal digits of a part
abbrev pub part_text : ℕ → List ℕ
part_text n = digit_glyph false (n / 16) ∷ digit_glyph false (n % 16) ∷ []

-- `#` and the digits of red, green and blue
abbrev pub colour_text : Colour → List ℕ
colour_text c = codes "#" ++ part_text c.r ++ part_text c.g ++ part_text c.b
