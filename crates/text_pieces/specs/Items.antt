-- The items of a line: characters with tags, and markers.
use Rattle.std.specs.Prelude.{ℕ, Bool, true, false, List, [], ◌∷◌}
use Rattle.text_lines.specs.Columns.{width_of}
use Rattle.text_lines.specs.Tagged.{Item, character, marker}

abbrev pub has_text : {S : Type 0} → List (Item S) → Bool
has_text [] = false
has_text (character c tag ∷ rest) = true
has_text (marker name ∷ rest) = has_text rest

abbrev pub item_columns : {S : Type 0} → Item S → ℕ
item_columns (character c tag) = width_of c
item_columns (marker name) = 0

abbrev pub markers_of : {S : Type 0} → List (Item S) → List (List ℕ)
markers_of [] = []
markers_of (character c tag ∷ rest) = markers_of rest
markers_of (marker name ∷ rest) = name ∷ markers_of rest
