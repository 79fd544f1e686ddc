-- Markers in normal text. A marker rides on a word: it is a letter of no columns whose tag is a note of its name, so
-- that units and layouts need not know of markers.
use Rattle.std.specs.Prelude.{◌&&◌, ◌||◌, [], ◌∷◌, ◌++◌, if◌then◌else◌, Bool, List, false, fold, is_some, map, nat_le}
use Rattle.std.specs.Prelude.{nat_lt, not, ℕ}
use Rattle.text_lines.specs.Columns.{columns_of, width_of}
use Rattle.text_lines.specs.Tagged.{Item, character, marker}
use Rattle.text_pieces.specs.Sources.{Source, letter, fragment, is_break_point}
use Rattle.text_pieces.specs.Items.{has_text, markers_of}
use Rattle.text_normal.specs.Units.{Letter, units}
use Rattle.text_normal.specs.Layout.{marks_items}
use Rattle.text_normal.specs.Greedy.{all_lines, add_units}

pub data Rider (S : Type 0) : Type 0 where
  plain : S → Rider S
  note : List ℕ → Rider S

abbrev pub plain_letter : {S : Type 0} → ℕ → S → Letter (Rider S)
plain_letter c tag = record { code = c; tag = plain tag }

-- U+2060 has no columns, and no line breaks at it
abbrev pub ride : {S : Type 0} → List ℕ → Letter (Rider S)
ride name = record { code = 0x2060; tag = note name }

-- The letters of a text with its markers on them; the markers that wait for a word; whether a marker rides on the word
-- before it: not after a break point, nor after a character that is wider than the width, which stands alone.
pub record Carried (S : Type 0) : Type 0 where
  pub letters : List (Letter (Rider S))
  pub waiting : List (List ℕ)
  pub in_word : Bool

abbrev pub nothing_carried : {S : Type 0} → Carried S
nothing_carried = record { letters = []; waiting = []; in_word = false }

-- a character on which markers ride: it has a width, and is no break point
abbrev pub is_carrier : ℕ → Bool
is_carrier c = not (is_break_point c) && is_some (columns_of c)

abbrev pub in_word_at : ℕ → Bool → ℕ → Bool
in_word_at width in_word c =
    if is_break_point c then false else (if is_some (columns_of c) then nat_le (width_of c) width else in_word)

abbrev pub carry : {S : Type 0} → ℕ → Carried S → Source S → Carried S
carry width k (fragment name) =
    if k.in_word then record k { letters = k.letters ++ ride name ∷ [] }
    else record k { waiting = k.waiting ++ name ∷ [] }
carry width k (letter c main further) =
    if is_carrier c
    then record {
      letters = k.letters ++ (map (λ name. ride name) k.waiting ++ plain_letter c main ∷ []);
      waiting = [];
      in_word = in_word_at width k.in_word c;
    }
    else record k { letters = k.letters ++ plain_letter c main ∷ []; in_word = in_word_at width k.in_word c }

abbrev pub carried : {S : Type 0} → ℕ → List (Source S) → Carried S
carried width source = fold (carry width) nothing_carried source

abbrev pub shown_item : {S : Type 0} → Item (Rider S) → Item S
shown_item (character c (plain tag)) = character c tag
shown_item (character c (note name)) = marker name
shown_item (marker name) = marker name

-- markers alone make no line: they go to the front of the next one
abbrev pub settled_lines : {S : Type 0} → List (Item S) → List (List (Item S)) → List (List (Item S))
settled_lines front [] = []
settled_lines front (line ∷ lines) =
    if has_text line then (front ++ line) ∷ settled_lines [] lines else settled_lines (front ++ line) lines

abbrev pub settled_rest : {S : Type 0} → List (Item S) → List (List (Item S)) → List (Item S)
settled_rest front [] = front
settled_rest front (line ∷ lines) = if has_text line then settled_rest [] lines else settled_rest (front ++ line) lines

-- what stands on the lines of the letters
abbrev pub shown_lines : {S : Type 0} → ℕ → List (Letter (Rider S)) → List (List (Item S))
shown_lines width letters = map (map shown_item) (map marks_items (all_lines (add_units width (units letters))))

-- the lines of normal text with its markers
unfoldable pub normal_lines : {S : Type 0} → ℕ → List (Source S) → List (List (Item S))
normal_lines width source = settled_lines [] (shown_lines width (carried width source).letters)

-- the markers that wait for what comes after it
unfoldable pub normal_waiting : {S : Type 0} → ℕ → List (Source S) → List (List ℕ)
normal_waiting width source = markers_of (settled_rest [] (shown_lines width (carried width source).letters))
    ++ (carried width source).waiting

-- some character that a line is to show is wider than the width
abbrev pub has_wide_text : {S : Type 0} → ℕ → List (Source S) → Bool
has_wide_text width [] = false
has_wide_text width (letter c main further ∷ rest) = (not (is_break_point c) && nat_lt width (width_of c))
    || has_wide_text width rest
has_wide_text width (fragment name ∷ rest) = has_wide_text width rest
