-- The characters that are escaped, as a set.
use Rattle.std.specs.Prelude.{ℕ, Bool, List, [], ◌∷◌, if◌then◌else◌}
use Rattle.std.specs.Char.{char_set_contains}

abbrev pub marks : (in_value : Bool) → List ℕ
marks in_value =
    if in_value then 38 ∷ 160 ∷ 60 ∷ 62 ∷ 34 ∷ [] else 38 ∷ 160 ∷ 60 ∷ 62 ∷ []

abbrev pub is_mark : (in_value : Bool) → ℕ → Bool
is_mark in_value c = char_set_contains (marks in_value) c
