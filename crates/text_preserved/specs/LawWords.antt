-- Words of the laws on preserved source lines.
use Rattle.std.specs.Prelude.{◌≡◌, ℕ, ◌+◌, Bool, not, ◌&&◌, List, [], ◌∷◌, is_some, ◌⊎◌}
use Rattle.text_lines.specs.Columns.{columns_of, width_of}
use Rattle.text_lines.specs.Tagged.{Item, character}
use Rattle.text_pieces.specs.Sources.{Source, letter, fragment, is_break_point}
use Rattle.text_preserved.specs.Preserved.{kind_of, solid}

-- A character that is shown: it has a width, and is neither white space nor U+200B.
abbrev pub is_shown : ℕ → Bool
is_shown c = not (is_break_point c) && is_some (columns_of c)

-- the characters, without markers
abbrev pub codes_of : {S : Type 0} → List (Source S) → List ℕ
codes_of [] = []
codes_of (letter c main further ∷ rest) = c ∷ codes_of rest
codes_of (fragment name ∷ rest) = codes_of rest

-- shown characters and spaces alone
abbrev pub ArePlain : {S : Type 0} → ℕ → Bool → List (Source S) → Type 0
ArePlain width wraps [] = Unit {0}
ArePlain width wraps (letter c main further ∷ rest) = ((kind_of width wraps c ≡ solid) ⊎ (c ≡ 0x20))
    × ArePlain width wraps rest
ArePlain width wraps (fragment name ∷ rest) = ⊥

abbrev pub source_columns : {S : Type 0} → List (Source S) → ℕ
source_columns [] = 0
source_columns (letter c main further ∷ rest) = width_of c + source_columns rest
source_columns (fragment name ∷ rest) = source_columns rest

-- the characters as they stand, each under its first tag
abbrev pub as_it_stands : {S : Type 0} → List (Source S) → List (Item S)
as_it_stands [] = []
as_it_stands (letter c main further ∷ rest) = character c main ∷ as_it_stands rest
as_it_stands (fragment name ∷ rest) = as_it_stands rest

-- one line, where there is anything on it
abbrev pub one_line : {S : Type 0} → List (Item S) → List (List (Item S))
one_line [] = []
one_line (item ∷ items) = (item ∷ items) ∷ []
