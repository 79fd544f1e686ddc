-- The visible characters of lines and of texts.
use Rattle.std.specs.Prelude.{ℕ, Bool, false, not, nat_lt, ◌&&◌, ◌||◌, List, [], ◌∷◌, filter}
use Rattle.text_lines.specs.Columns.{width_of}
use Rattle.text_lines.specs.Tagged.{Item, characters}
use Rattle.text_pieces.specs.Sources.{Source, fragment, is_break_point, letter}

-- a character of at least one column, at which no line breaks
abbrev pub is_visible : ℕ → Bool
is_visible c = not (is_break_point c) && nat_lt 0 (width_of c)

abbrev pub has_visible : {S : Type 0} → List (Source S) → Bool
has_visible [] = false
has_visible (letter c main further ∷ rest) = is_visible c || has_visible rest
has_visible (fragment name ∷ rest) = has_visible rest

abbrev pub visible_of : {S : Type 0} → List (Item S) → List ℕ
visible_of line = filter is_visible (characters line)
