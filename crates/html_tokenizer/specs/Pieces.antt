-- A text in pieces.
use Rattle.std.specs.Prelude.{ℕ, List, [], ◌∷◌, ◌++◌, String, chars, string_bytes}

-- the characters of all the pieces, one after another
abbrev pub joined : {Z : Type 0} → List (String Z) → List ℕ
joined [] = []
joined (piece ∷ pieces) = chars (string_bytes piece) ++ joined pieces
