-- The letters of a text in which there are no markers.
use Rattle.std.specs.Prelude.{ℕ, Bool, true, false, not, ◌&&◌, is_some, List, [], ◌∷◌}
use Rattle.text_lines.specs.Columns.{columns_of}
use Rattle.text_pieces.specs.Sources.{Source, letter, fragment, is_break_point}
use Rattle.text_normal.specs.Units.{Letter}

-- the characters with their tags, where there are no markers
abbrev pub letters_of : {S : Type 0} → List (Source S) → List (Letter S)
letters_of [] = []
letters_of (letter c main further ∷ rest) = record { code = c; tag = main } ∷ letters_of rest
letters_of (fragment name ∷ rest) = letters_of rest

abbrev pub has_marker : {S : Type 0} → List (Source S) → Bool
has_marker [] = false
has_marker (letter c main further ∷ rest) = has_marker rest
has_marker (fragment name ∷ rest) = true

-- A character that is shown: it has a width, and is neither white space nor U+200B.
abbrev pub is_shown : ℕ → Bool
is_shown c = not (is_break_point c) && is_some (columns_of c)

-- the characters, without markers
abbrev pub codes_of : {S : Type 0} → List (Source S) → List ℕ
codes_of [] = []
codes_of (letter c main further ∷ rest) = c ∷ codes_of rest
codes_of (fragment name ∷ rest) = codes_of rest

-- the text without its markers
abbrev pub texts_of : {S : Type 0} → List (Source S) → List (Source S)
texts_of [] = []
texts_of (letter c main further ∷ rest) = letter c main further ∷ texts_of rest
texts_of (fragment name ∷ rest) = texts_of rest
