-- Lines after a page.
use Rattle.std.specs.Prelude.{ℕ, ◌+◌, ◌==◌, nat_le, Bool, not, ◌||◌, List, [], ◌∷◌, ◌++◌, map, fold, if◌then◌else◌}
use Rattle.text_lines.specs.Columns.{width_of}
use Rattle.text_lines.specs.Tagged.{Item, character, marker, line_columns}
use Rattle.text_pieces.specs.Items.{has_text}

-- lines that are done, and the one that is begun
pub record Cut (S : Type 0) : Type 0 where
  pub done : List (List (Item S))
  pub line : List (Item S)

abbrev pub nothing_cut : {S : Type 0} → Cut S
nothing_cut = record { done = []; line = [] }

-- A character goes on the line where it fits, or where the line has no text; else it begins the next one.
abbrev pub placed : {S : Type 0} → ℕ → Cut S → Item S → Cut S
placed width cut (marker name) = record cut { line = cut.line ++ marker name ∷ [] }
placed width cut (character c tag) =
    if nat_le (line_columns cut.line + width_of c) width || not (has_text cut.line)
    then record cut { line = cut.line ++ character c tag ∷ [] }
    else record { done = cut.done ++ cut.line ∷ []; line = character c tag ∷ [] }

abbrev pub all_lines : {S : Type 0} → Cut S → List (List (Item S))
all_lines cut = cut.done ++ cut.line ∷ []

-- a line end is a space, and the annotation stands alone
abbrev pub noted : {A : Type 0} → Item A → Item (List A)
noted (character c tag) = character (if c == 0xA then 0x20 else c) (tag ∷ [])
noted (marker name) = marker name

-- the lines that a line after the page gives: cut at the width, where such lines are
abbrev pub footnote_lines : {A : Type 0} → Bool → ℕ → List (Item A) → List (List (Item (List A)))
footnote_lines wraps width items =
    if wraps then all_lines (fold (placed width) nothing_cut (map noted items)) else map noted items ∷ []
