-- How a text stands in a field of a line.
use Rattle.std.specs.Prelude.{ℕ, Bool, true, ◌&&◌, ◌||◌, ◌==◌, nat_le, List, [], ◌∷◌, ◌++◌, flat_map, if◌then◌else◌}
use Rattle.std.specs.Char.{is_control}
use Rattle.std.specs.Fmt.{digits}

-- A character does not show by itself: a control, a mark on what precedes it, or U+FEFF.
abbrev pub is_unseen : ℕ → Bool
is_unseen c = is_control c || ((nat_le 0x20D0 c && nat_le c 0x20FF) || (c == 0xFEFF))

-- its number in braces, in hexadecimal digits
abbrev pub code_of : ℕ → List ℕ
code_of c = 0x5C ∷ 0x75 ∷ 0x7B ∷ (digits 16 true c ++ 0x7D ∷ [])

-- What fields and lines end with, and the backslash, stand after a backslash: so do characters that don't show.
abbrev pub escape_of : ℕ → List ℕ
escape_of c =
    if c == 0x5C then 0x5C ∷ 0x5C ∷ []
    else if c == 0xA then 0x5C ∷ 0x6E ∷ []
    else if c == 0x9 then 0x5C ∷ 0x74 ∷ []
    else if c == 0xD then 0x5C ∷ 0x72 ∷ []
    else if is_unseen c then code_of c
    else c ∷ []

abbrev pub field_of : List ℕ → List ℕ
field_of cs = flat_map escape_of cs
