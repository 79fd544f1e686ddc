-- Tags have no say in how normal text is laid, with markers on it: the same letters under other tags stand on the same
-- lines.
use Rattle.std.proofs.Common.{◌≡◌, ℕ, Bool, List, [], ◌∷◌, ◌++◌, map, sym, ap, ◌∙◌, refl}
use Rattle.std.specs.Prelude.{not, ◌&&◌, ◌||◌, nat_lt}
use Rattle.std.proofs.lemmas.List.{map-append}
use Rattle.text_lines.specs.Columns.{width_of}
use Rattle.text_lines.specs.Tagged.{Item, character, marker}
use Rattle.text_pieces.specs.Items.{has_text, markers_of}
use Rattle.text_pieces.specs.Sources.{Source, letter, fragment, is_break_point}
use Rattle.text_pieces.specs.Retagged.{reitem, resource}
use Rattle.text_pieces.proofs.RetaggedItems.{chosen_by, folded, has_text_retagged, markers_retagged}
use Rattle.text_normal.specs.Units.{Letter, units}
use Rattle.text_normal.specs.Layout.{Mark, marks_items}
use Rattle.text_normal.specs.Greedy.{all_lines, add_units}
use Rattle.text_normal.specs.Riders.{Carried, Rider, carried, carry, has_wide_text, in_word_at, is_carrier}
use Rattle.text_normal.specs.Riders.{normal_lines, normal_waiting, note, nothing_carried, plain, plain_letter, ride}
use Rattle.text_normal.specs.Riders.{settled_lines, settled_rest, shown_item, shown_lines}
use Rattle.text_normal.proofs.Retagging.{retag, remark, lines_retagged, items_retagged}

abbrev pub rerider : {A B : Type 0} → (A → B) → Rider A → Rider B
rerider f (plain tag) = plain (f tag)
rerider f (note name) = note name

abbrev pub reletters : {A B : Type 0} → (A → B) → List (Letter (Rider A)) → List (Letter (Rider B))
reletters f ls = map (retag (rerider f)) ls

abbrev pub recarry : {A B : Type 0} → (A → B) → Carried A → Carried B
recarry f k = record { letters = reletters f k.letters; waiting = k.waiting; in_word = k.in_word }

abbrev made : {S : Type 0} → List (Letter (Rider S)) → List (List ℕ) → Bool → Carried S
made letters waiting in_word = record { letters = letters; waiting = waiting; in_word = in_word }

-- ---- letters and the markers on them

rides_retagged : {A B : Type 0} (f : A → B) (names : List (List ℕ)) → map (λ name. ride {S = B} name) names
    ≡ reletters f (map (λ name. ride {S = A} name) names)
rides_retagged f [] = refl
rides_retagged f (name ∷ names) = ap (λ ls. ride name ∷ ls) (rides_retagged f names)

begun_retagged : {A B : Type 0} (f : A → B) (names : List (List ℕ)) (c : ℕ) (main : A)
    → map (λ name. ride {S = B} name) names ++ plain_letter c (f main) ∷ []
    ≡ reletters f (map (λ name. ride {S = A} name) names ++ plain_letter c main ∷ [])
begun_retagged {A = A} f names c main =
    ap (λ ls. ls ++ plain_letter c (f main) ∷ []) (rides_retagged f names)
    ∙ sym (map-append (retag (rerider f)) (map (λ name. ride {S = A} name) names) (plain_letter c main ∷ []))

carry_retagged : {A B : Type 0} (f : A → B) (w : ℕ) (k : Carried A) (s : Source A)
    → carry w (recarry f k) (resource f s) ≡ recarry f (carry w k s)
carry_retagged f w k (fragment name) =
    chosen_by (recarry f) k.in_word k.in_word (made (k.letters ++ ride name ∷ []) k.waiting k.in_word)
    (made k.letters (k.waiting ++ name ∷ []) k.in_word)
    (made (reletters f k.letters ++ ride name ∷ []) k.waiting k.in_word)
    (made (reletters f k.letters) (k.waiting ++ name ∷ []) k.in_word) refl
    (ap (λ ls. made ls k.waiting k.in_word) (sym (map-append (retag (rerider f)) k.letters (ride name ∷ [])))) refl
carry_retagged {A = A} {B = B} f w k (letter c main further) =
    let more = map (λ name. ride {S = A} name) k.waiting ++ plain_letter c main ∷ [] in
    chosen_by (recarry f) (is_carrier c) (is_carrier c) (made (k.letters ++ more) [] (in_word_at w k.in_word c))
    (made (k.letters ++ plain_letter c main ∷ []) k.waiting (in_word_at w k.in_word c))
    (made (reletters f k.letters ++ (map (λ name. ride {S = B} name) k.waiting ++ plain_letter c (f main) ∷ [])) []
    (in_word_at w k.in_word c))
    (made (reletters f k.letters ++ plain_letter c (f main) ∷ []) k.waiting (in_word_at w k.in_word c)) refl
    (ap (λ ls. made ls [] (in_word_at w k.in_word c))
    (ap (λ ls. reletters f k.letters ++ ls) (begun_retagged f k.waiting c main)
    ∙ sym (map-append (retag (rerider f)) k.letters more)))
    (ap (λ ls. made ls k.waiting (in_word_at w k.in_word c))
    (sym (map-append (retag (rerider f)) k.letters (plain_letter c main ∷ []))))

carried_retagged : {A B : Type 0} (f : A → B) (w : ℕ) (source : List (Source A))
    → carried w (map (resource f) source) ≡ recarry f (carried w source)
carried_retagged f w source =
    folded (carry w) (carry w) (recarry f) (resource f) (carry_retagged f w) source nothing_carried

-- ---- lines as they are shown

item_shown : {A B : Type 0} (f : A → B) (item : Item (Rider A)) → shown_item (reitem (rerider f) item)
    ≡ reitem f (shown_item item)
item_shown f (character c (plain tag)) = refl
item_shown f (character c (note name)) = refl
item_shown f (marker name) = refl

items_shown : {A B : Type 0} (f : A → B) (items : List (Item (Rider A)))
    → map shown_item (map (reitem (rerider f)) items) ≡ map (reitem f) (map shown_item items)
items_shown f [] = refl
items_shown f (item ∷ items) =
    ap (λ x. x ∷ map shown_item (map (reitem (rerider f)) items)) (item_shown f item)
    ∙ ap (λ xs. reitem f (shown_item item) ∷ xs) (items_shown f items)

lines_shown : {A B : Type 0} (f : A → B) (lines : List (List (Mark (Rider A))))
    → map (map shown_item) (map marks_items (map (map (remark (rerider f))) lines))
    ≡ map (map (reitem f)) (map (map shown_item) (map marks_items lines))
lines_shown f [] = refl
lines_shown f (line ∷ lines) =
    ap (λ l. l ∷ map (map shown_item) (map marks_items (map (map (remark (rerider f))) lines)))
    (ap (map shown_item) (items_retagged (rerider f) line) ∙ items_shown f (marks_items line))
    ∙ ap (λ ls. map (reitem f) (map shown_item (marks_items line)) ∷ ls) (lines_shown f lines)

shown_retagged : {A B : Type 0} (f : A → B) (w : ℕ) (letters : List (Letter (Rider A)))
    → shown_lines w (reletters f letters) ≡ map (map (reitem f)) (shown_lines w letters)
shown_retagged f w letters =
    ap (λ ls. map (map shown_item) (map marks_items ls)) (lines_retagged (rerider f) w letters)
    ∙ lines_shown f (all_lines (add_units w (units letters)))

-- ---- markers alone make no line

settled_retagged : {A B : Type 0} (f : A → B) (lines : List (List (Item A))) (front : List (Item A))
    → settled_lines (map (reitem f) front) (map (map (reitem f)) lines)
    ≡ map (map (reitem f)) (settled_lines front lines)
settled_retagged f [] front = refl
settled_retagged f (line ∷ lines) front =
    chosen_by (map (map (reitem f))) (has_text line) (has_text (map (reitem f) line))
    ((front ++ line) ∷ settled_lines [] lines) (settled_lines (front ++ line) lines)
    ((map (reitem f) front ++ map (reitem f) line) ∷ settled_lines [] (map (map (reitem f)) lines))
    (settled_lines (map (reitem f) front ++ map (reitem f) line) (map (map (reitem f)) lines))
    (has_text_retagged f line)
    (ap (λ l. l ∷ settled_lines [] (map (map (reitem f)) lines)) (sym (map-append (reitem f) front line))
    ∙ ap (λ ls. map (reitem f) (front ++ line) ∷ ls) (settled_retagged f lines []))
    (ap (λ l. settled_lines l (map (map (reitem f)) lines)) (sym (map-append (reitem f) front line))
    ∙ settled_retagged f lines (front ++ line))

rest_retagged : {A B : Type 0} (f : A → B) (lines : List (List (Item A))) (front : List (Item A))
    → settled_rest (map (reitem f) front) (map (map (reitem f)) lines) ≡ map (reitem f) (settled_rest front lines)
rest_retagged f [] front = refl
rest_retagged f (line ∷ lines) front =
    chosen_by (map (reitem f)) (has_text line) (has_text (map (reitem f) line))
    (settled_rest [] lines) (settled_rest (front ++ line) lines)
    (settled_rest [] (map (map (reitem f)) lines))
    (settled_rest (map (reitem f) front ++ map (reitem f) line) (map (map (reitem f)) lines))
    (has_text_retagged f line) (rest_retagged f lines [])
    (ap (λ l. settled_rest l (map (map (reitem f)) lines)) (sym (map-append (reitem f) front line))
    ∙ rest_retagged f lines (front ++ line))

-- ---- texts

all_shown : {A B : Type 0} (f : A → B) (w : ℕ) (source : List (Source A))
    → shown_lines w (carried w (map (resource f) source)).letters
    ≡ map (map (reitem f)) (shown_lines w (carried w source).letters)
all_shown f w source =
    ap (λ (k : Carried _). shown_lines w k.letters) (carried_retagged f w source)
    ∙ shown_retagged f w (carried w source).letters

pub normal_retagged : {A B : Type 0} (f : A → B) (w : ℕ) (source : List (Source A))
    → normal_lines w (map (resource f) source) ≡ map (map (reitem f)) (normal_lines w source)
unfolding normal_lines
normal_retagged f w source =
    ap (settled_lines []) (all_shown f w source) ∙ settled_retagged f (shown_lines w (carried w source).letters) []

pub waiting_retagged : {A B : Type 0} (f : A → B) (w : ℕ) (source : List (Source A))
    → normal_waiting w (map (resource f) source) ≡ normal_waiting w source
unfolding normal_waiting
waiting_retagged f w source =
    let lines = shown_lines w (carried w source).letters in
    ap (λ ls. markers_of (settled_rest [] ls) ++ (carried w (map (resource f) source)).waiting) (all_shown f w source)
    ∙ ap (λ rest. markers_of rest ++ (carried w (map (resource f) source)).waiting) (rest_retagged f lines [])
    ∙ ap (λ names. names ++ (carried w (map (resource f) source)).waiting)
    (markers_retagged f (settled_rest [] lines))
    ∙ ap (λ (k : Carried _). markers_of (settled_rest [] lines) ++ k.waiting) (carried_retagged f w source)

pub wide_text_retagged : {A B : Type 0} (f : A → B) (w : ℕ) (source : List (Source A))
    → has_wide_text w (map (resource f) source) ≡ has_wide_text w source
wide_text_retagged f w [] = refl
wide_text_retagged f w (letter c main further ∷ rest) =
    ap (λ b. (not (is_break_point c) && nat_lt w (width_of c)) || b) (wide_text_retagged f w rest)
wide_text_retagged f w (fragment name ∷ rest) = wide_text_retagged f w rest
