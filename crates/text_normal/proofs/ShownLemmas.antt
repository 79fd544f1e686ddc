-- Lines of text with markers on it, shown.
use Rattle.std.proofs.Common.{◌≡◌, ℕ, Bool, true, false, ◌||◌, List, [], ◌∷◌, ◌++◌, map, ap, ◌∙◌, refl, append_assoc}
use Rattle.std.specs.Prelude.{if◌then◌else◌}
use Rattle.text_lines.specs.Elements.{Item, character, marker, tagged}
use Rattle.text_pieces.specs.Items.{has_text}
use Rattle.text_normal.specs.Riders.{plain, note, shown_item, settled_lines, settled_rest}
use Rattle.text_pieces.proofs.ElementLemmas.{has_text-append}

-- ---- texts

pub shown_plain_text : {S : Type 0} (cs : List ℕ) (tag : S) → map shown_item (tagged cs (plain tag)) ≡ tagged cs tag
shown_plain_text [] tag = refl
shown_plain_text (c ∷ cs) tag = ap (λ items. character c tag ∷ items) (shown_plain_text cs tag)

pub shown_note : {S : Type 0} (cs : List ℕ) (name : List ℕ)
    → map (shown_item {S = S}) (tagged cs (note name)) ≡ map (λ c. marker name) cs
shown_note [] name = refl
shown_note (c ∷ cs) name = ap (λ items. marker name ∷ items) (shown_note cs name)

-- ---- line by line

-- what a line makes of what is done and in front, after which other lines come
pub settled_more : {S : Type 0} (done lines : List (List (Item S))) (front line : List (Item S))
    → has_text front ≡ false
    → (if has_text (front ++ line) then done ++ (front ++ line) ∷ [] else done)
    ++ settled_lines (if has_text (front ++ line) then [] else front ++ line) lines
    ≡ done ++ settled_lines front (line ∷ lines)
settled_more done lines front line none =
    ap (λ t. (if t then done ++ (front ++ line) ∷ [] else done) ++ settled_lines (if t then []
    else front ++ line) lines)
    (has_text-append front line ∙ ap (λ t. t || has_text line) none) ∙ by_text (has_text line)
  where
    by_text : (t : Bool) → (if t then done ++ (front ++ line) ∷ [] else done)
        ++ settled_lines (if t then [] else front ++ line) lines
        ≡ done ++ (if t then (front ++ line) ∷ settled_lines [] lines else settled_lines (front ++ line) lines)
    by_text true = append_assoc done ((front ++ line) ∷ []) (settled_lines [] lines)
    by_text false = refl

pub rest_more : {S : Type 0} (lines : List (List (Item S))) (front line : List (Item S)) → has_text front ≡ false
    → settled_rest (if has_text (front ++ line) then [] else front ++ line) lines ≡ settled_rest front (line ∷ lines)
rest_more lines front line none =
    ap (λ t. settled_rest (if t then [] else front ++ line) lines)
    (has_text-append front line ∙ ap (λ t. t || has_text line) none) ∙ by_text (has_text line)
  where
    by_text : (t : Bool) → settled_rest (if t then [] else front ++ line) lines
        ≡ (if t then settled_rest [] lines else settled_rest (front ++ line) lines)
    by_text true = refl
    by_text false = refl

pub front_free : {S : Type 0} (items : List (Item S)) → has_text (if has_text items then [] else items) ≡ false
front_free items = by_text (has_text items) refl
  where
    by_text : (t : Bool) → has_text items ≡ t → has_text (if t then [] else items) ≡ false
    by_text true e = refl
    by_text false e = e

pub settled_step : {S : Type 0} (done made lines all : List (List (Item S))) (front line whole left : List (Item S))
    → whole ≡ front ++ line → made ≡ (if has_text whole then done ++ whole ∷ [] else done)
    → left ≡ (if has_text whole then [] else whole) → has_text front ≡ false
    → done ++ settled_lines front (line ∷ lines) ≡ all → made ++ settled_lines left lines ≡ all
settled_step done made lines all front line whole left split made_is left_is free before =
    ap (λ d. d ++ settled_lines left lines) made_is
    ∙ ap (λ f. (if has_text whole then done ++ whole ∷ [] else done) ++ settled_lines f lines) left_is
    ∙ ap (λ w. (if has_text w then done ++ w ∷ [] else done) ++ settled_lines (if has_text w then []
    else w) lines) split
    ∙ settled_more done lines front line free ∙ before

pub rest_step : {S : Type 0} (lines : List (List (Item S))) (front line whole left all : List (Item S))
    → whole ≡ front ++ line → left ≡ (if has_text whole then [] else whole) → has_text front ≡ false
    → settled_rest front (line ∷ lines) ≡ all → settled_rest left lines ≡ all
rest_step lines front line whole left all split left_is free before =
    ap (λ f. settled_rest f lines) left_is
    ∙ ap (λ w. settled_rest (if has_text w then [] else w) lines) split ∙ rest_more lines front line free ∙ before
