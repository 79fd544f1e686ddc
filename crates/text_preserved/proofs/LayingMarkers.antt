-- No marker is lost.
use Rattle.std.proofs.Common.{◌≡◌, ℕ, Bool, List, [], ◌∷◌, ◌++◌, flat_map, refl, sym, ap, ◌∙◌}
use Rattle.text_lines.specs.Tagged.{Item, character, marker}
use Rattle.text_pieces.specs.Sources.{Source, letter, fragment}
use Rattle.text_preserved.specs.Preserved.{laid, markers_of, names_of, preserved_lines, preserved_waiting, trimmed}
use Rattle.text_preserved.specs.Preserved.{word_after}
use Rattle.text_preserved.proofs.LayingKept.{IsSeen, laid_seen}

-- markers and names, item by item
abbrev item_markers : {S : Type 0} → Item S → List (List ℕ)
item_markers (character c tag) = []
item_markers (marker name) = name ∷ []

abbrev source_names : {S : Type 0} → Source S → List (List ℕ)
source_names (letter c main further) = []
source_names (fragment name) = name ∷ []

markers_one_by_one : {S : Type 0} (items : List (Item S)) → flat_map item_markers items ≡ markers_of items
markers_one_by_one [] = refl
markers_one_by_one (character c tag ∷ items) = markers_one_by_one items
markers_one_by_one (marker name ∷ items) = ap (λ names. name ∷ names) (markers_one_by_one items)

names_one_by_one : {S : Type 0} (line : List (Source S)) → flat_map source_names line ≡ names_of line
names_one_by_one [] = refl
names_one_by_one (letter c main further ∷ line) = names_one_by_one line
names_one_by_one (fragment name ∷ line) = ap (λ names. name ∷ names) (names_one_by_one line)

lines_one_by_one : {S : Type 0} (lines : List (List (Item S)))
    → flat_map (λ items. flat_map item_markers items) lines ≡ flat_map (markers_of {S = S}) lines
lines_one_by_one [] = refl
lines_one_by_one (items ∷ lines) = ap (λ names. names ++ flat_map (λ items. flat_map item_markers items) lines)
    (markers_one_by_one items) ∙ ap (λ names. markers_of items ++ names) (lines_one_by_one lines)

markers_are_seen : {S : Type 0} (w : ℕ) (wraps : Bool) → IsSeen w wraps (item_markers {S = S}) source_names
markers_are_seen w wraps = record {
  spaces = λ tag. refl;
  letters = λ c main further tag. refl;
  fragments = λ name. refl;
  others = λ c main further e. refl;
}

pub lines_keep_markers : {S : Type 0} (w : ℕ) (wraps : Bool) (line : List (Source S))
    → flat_map (markers_of {S = S}) (preserved_lines w wraps line) ++ preserved_waiting w wraps line ≡ names_of line
unfolding preserved_lines preserved_waiting
lines_keep_markers {S = S} w wraps line =
    let waiting : List (Source S) = word_after w wraps [] (trimmed w wraps line) in
    sym (ap (λ names. names ++ (flat_map item_markers (laid w wraps line).line ++ flat_map source_names waiting))
    (lines_one_by_one (laid w wraps line).done)
    ∙ ap (λ names. flat_map (markers_of {S = S}) (laid w wraps line).done ++ (names ++ flat_map source_names waiting))
    (markers_one_by_one (laid w wraps line).line)
    ∙ ap (λ names. flat_map (markers_of {S = S}) (laid w wraps line).done
    ++ (markers_of (laid w wraps line).line ++ names))
    (names_one_by_one waiting))
    ∙ laid_seen w wraps item_markers source_names line (markers_are_seen w wraps) ∙ names_one_by_one line
