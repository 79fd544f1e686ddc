-- Words of worked rows: the characters, or the tags, of the lines of a text whose tags are 0, and 1 where it was
-- wrapped.
use Rattle.std.specs.Prelude.{ℕ, Bool, true, false, List, [], ◌∷◌, map}
use Rattle.text_lines.specs.Tagged.{Item, character, marker, characters}
use Rattle.text_pieces.specs.Sources.{sourced}
use Rattle.text_preserved.specs.Preserved.{preserved_lines}

abbrev pub unwrapped : Bool
unwrapped = false

abbrev pub wrapped_at : Bool
wrapped_at = true

abbrev pub lines_of : ℕ → Bool → List ℕ → List (List ℕ)
lines_of width wraps cs = map (characters {S = ℕ}) (preserved_lines width wraps (sourced cs 0 1))

abbrev pub tags : List (Item ℕ) → List ℕ
tags [] = []
tags (character c tag ∷ rest) = tag ∷ tags rest
tags (marker name ∷ rest) = tags rest

abbrev pub tagged_of : ℕ → Bool → List ℕ → List (List ℕ)
tagged_of width wraps cs = map tags (preserved_lines width wraps (sourced cs 0 1))
