-- Normal text without markers: its lines are those of its fullest layout.
use Rattle.std.proofs.Common.{◌≡◌, ◌<◌, ◌⊎◌, ◌&&◌, ◌||◌, [], ◌∷◌, ◌++◌, ◌∙◌, Bool, List, ap, append-nil, append_assoc}
use Rattle.std.proofs.Common.{arith, false, inl, inr, map, nat_le, nat_lt, not, refl, subst, sym, true, ℕ}
use Rattle.std.specs.Prelude.{All, IsTrue, fold, if◌then◌else◌}
use Rattle.std.proofs.lemmas.Bool.Decides.{nat_tests}
use Rattle.std.proofs.lemmas.List.Elements.{All-nil, All-cons, All-head, All-tail}
use Rattle.text_lines.specs.Columns.{width_of}
use Rattle.text_lines.specs.Tagged.{Item, character, marker}
use Rattle.text_pieces.specs.Sources.{Source, letter, fragment, is_break_point}
use Rattle.text_pieces.specs.Items.{has_text}
use Rattle.text_normal.specs.Units.{Letter, units}
use Rattle.text_normal.specs.Layout.{Mark, marks_items, IsAllowed, AreLinesOf, NeverFits}
use Rattle.text_normal.specs.Greedy.{all_lines, add_units}
use Rattle.text_normal.specs.NormalStates.{AllHaveRoom, has_room, HasWider}
use Rattle.text_normal.specs.Riders.{Carried, Rider, carry, has_wide_text, in_word_at, is_carrier, normal_lines, plain}
use Rattle.text_normal.specs.Riders.{plain_letter, settled_lines, shown_item, shown_lines}
use Rattle.text_normal.specs.Letters.{letters_of, has_marker}
use Rattle.text_normal.proofs.LayoutFilling.{filled_is_fullest, letters_there}
use Rattle.text_normal.proofs.UnitsLetters.{units_have_letters}
use Rattle.text_normal.proofs.UnitsReading.{read_is_units}
use Rattle.text_normal.proofs.NormalFinal.{lines_are, wider_never}
use Rattle.text_pieces.specs.Retagged.{reitem}
use Rattle.text_normal.proofs.Retagging.{retag, remark, lines_retagged, items_retagged}

-- ---- letters

-- what is carried of a text without markers, where none wait: its letters
pub record IsPlain {S : Type 0} (before : List (Letter (Rider S))) (source : List (Source S)) (k : Carried S) : Type 0
  where
    pub letters : k.letters ≡ before ++ map (retag plain) (letters_of source)
    pub waiting : k.waiting ≡ []

abbrev plain_carried : {S : Type 0} → List (Letter (Rider S)) → Bool → Carried S
plain_carried letters in_word = record { letters = letters; waiting = []; in_word = in_word }

more_plain : {S : Type 0} (before : List (Letter (Rider S))) (c : ℕ) (main : S) (rest : List (Letter S))
    → (before ++ plain_letter c main ∷ []) ++ map (retag plain) rest
    ≡ before ++ (plain_letter c main ∷ map (retag plain) rest)
more_plain before c main rest = append_assoc before (plain_letter c main ∷ []) (map (retag plain) rest)

one_carried : {S : Type 0} (width : ℕ) (before : List (Letter (Rider S))) (in_word : Bool) (c : ℕ) (main further : S)
    (b : Bool)
    → (if b then plain_carried (before ++ ([] ++ plain_letter c main ∷ [])) (in_word_at width in_word c)
    else plain_carried (before ++ plain_letter c main ∷ []) (in_word_at width in_word c))
    ≡ plain_carried (before ++ plain_letter c main ∷ []) (in_word_at width in_word c)
one_carried width before in_word c main further true = refl
one_carried width before in_word c main further false = refl

plain_after : {S : Type 0} (width : ℕ) (before : List (Letter (Rider S))) (c : ℕ) (main further : S)
    (rest : List (Source S)) (k : Carried S) → IsPlain (before ++ plain_letter c main ∷ []) rest k
    → IsPlain before (letter c main further ∷ rest) k
plain_after width before c main further rest k h =
    record { letters = h.letters ∙ more_plain before c main (letters_of rest); waiting = h.waiting }

pub carried_plain : {S : Type 0} (width : ℕ) (source : List (Source S)) (before : List (Letter (Rider S)))
    (in_word : Bool) → has_marker source ≡ false
    → IsPlain before source (fold (carry width) (plain_carried before in_word) source)
carried_plain width [] before in_word none = record { letters = sym (append-nil before); waiting = refl }
carried_plain width (letter c main further ∷ rest) before in_word none =
    subst (λ k. IsPlain before (letter c main further ∷ rest) (fold (carry width) k rest))
    (sym (one_carried width before in_word c main further (is_carrier c)))
    (plain_after width before c main further rest _
    (carried_plain width rest (before ++ plain_letter c main ∷ []) (in_word_at width in_word c) none))
carried_plain width (fragment name ∷ rest) before in_word none = cc

-- ---- what is shown

shown_plain : {S : Type 0} (items : List (Item S)) → map shown_item (map (reitem plain) items) ≡ items
shown_plain [] = refl
shown_plain (character c tag ∷ rest) = ap (λ items. character c tag ∷ items) (shown_plain rest)
shown_plain (marker name ∷ rest) = ap (λ items. marker name ∷ items) (shown_plain rest)

each_shown : {S : Type 0} (lines : List (List (Mark S)))
    → map (map shown_item) (map marks_items (map (map (remark plain)) lines)) ≡ map marks_items lines
each_shown [] = refl
each_shown (line ∷ lines) =
    ap (λ first. first ∷ map (map shown_item) (map marks_items (map (map (remark plain)) lines)))
    (ap (map shown_item) (items_retagged plain line) ∙ shown_plain (marks_items line))
    ∙ ap (λ rest. marks_items line ∷ rest) (each_shown lines)

pub lines_shown : {S : Type 0} (width : ℕ) (ls : List (Letter S)) → shown_lines width (map (retag plain) ls)
    ≡ map marks_items (all_lines (add_units width (units ls)))
lines_shown width ls =
    ap (λ lines. map (map shown_item) (map marks_items lines)) (lines_retagged plain width ls)
    ∙ each_shown (all_lines (add_units width (units ls)))

-- ---- each line has text

pub line_has_text : {S : Type 0} (width : ℕ) (line : List (Mark S)) → IsAllowed width true line
    → has_text (marks_items line) ≡ true
line_has_text width [] (inl h) = absurd h
line_has_text width [] (inr h) = absurd h
line_has_text width (m ∷ ms) h = refl

settled_at : {S : Type 0} (line : List (Item S)) (lines : List (List (Item S))) (b : Bool) → has_text line ≡ true
    → settled_lines [] lines ≡ lines → settled_lines [] (line ∷ lines) ≡ line ∷ lines
settled_at line lines b has rest =
    ap (λ t. if t then ([] ++ line) ∷ settled_lines [] lines else settled_lines ([] ++ line) lines) has
    ∙ ap (λ ls. line ∷ ls) rest

settled_plain : {S : Type 0} (width : ℕ) (lines : List (List (Mark S))) → All (IsAllowed width true) lines
    → settled_lines [] (map marks_items lines) ≡ map marks_items lines
settled_plain width [] h = refl
settled_plain width (line ∷ lines) h =
    settled_at (marks_items line) (map marks_items lines) true
    (line_has_text width line (All-head (IsAllowed width true) line lines h))
    (settled_plain width lines (All-tail (IsAllowed width true) line lines h))

pub all_allowed : {S : Type 0} (width : ℕ) (ls : List (Letter S))
    → All (IsAllowed width true) (all_lines (add_units width (units ls)))
all_allowed width ls =
    (filled_is_fullest width true (units ls) (inl refl) (letters_there (units ls) (units_have_letters ls))).layout.each

pub plain_lines : {S : Type 0} (width : ℕ) (source : List (Source S)) → has_marker source ≡ false
    → normal_lines width source ≡ map marks_items (all_lines (add_units width (units (letters_of source))))
unfolding normal_lines
plain_lines width source none =
    let ls = letters_of source in
    ap (λ letters. settled_lines [] (shown_lines width letters)) (carried_plain width source [] false none).letters
    ∙ ap (settled_lines []) (lines_shown width ls)
    ∙ settled_plain width (all_lines (add_units width (units ls))) (all_allowed width ls)

-- ---- room

room_at : (over breaks : Bool) (n w : ℕ) (rest : Bool)
    → (over || not ((not breaks && nat_lt w n) || rest)) ≡ true
    → IsTrue (over || (breaks || nat_le n w)) × ((over || not rest) ≡ true)
room_at true breaks n w rest h = (refl, refl)
room_at false true n w rest h = (refl, h)
room_at false false n w true h = absurd (no_room (nat_lt w n) h)
  where
    no_room : (b : Bool) → not (b || true) ≡ true → ⊥
    no_room true e = cc
    no_room false e = cc
room_at false false n w false h = (grind (arith, nat_tests, h), refl)

pub all_room : {S : Type 0} (width : ℕ) (overflow : Bool) (source : List (Source S))
    → (overflow || not (has_wide_text width source)) ≡ true → AllHaveRoom width overflow (letters_of source)
all_room width overflow [] h = All-nil (λ l. IsTrue (has_room width overflow l))
all_room width overflow (letter c main further ∷ rest) h =
    let both = room_at overflow (is_break_point c) (width_of c) width (has_wide_text width rest) h in
    All-cons (λ l. IsTrue (has_room width overflow l)) (record { code = c; tag = main }) (letters_of rest) both.0
    (all_room width overflow rest both.1)
all_room width overflow (fragment name ∷ rest) h = all_room width overflow rest h

pub plain_lines_are : {S : Type 0} (width : ℕ) (overflow : Bool) (source : List (Source S)) → has_marker source ≡ false
    → (overflow || not (has_wide_text width source)) ≡ true
    → AreLinesOf width overflow (letters_of source) (normal_lines width source)
plain_lines_are width overflow source none room =
    subst (AreLinesOf width overflow (letters_of source))
    (ap (map marks_items) (read_is_units width (letters_of source)) ∙ sym (plain_lines width source none))
    (lines_are width overflow (letters_of source) (all_room width overflow source room))

-- ---- what is too wide

wide_here : {S : Type 0} (width c : ℕ) (main : S) (rest : List (Letter S)) → is_break_point c ≡ false
    → width < width_of c → HasWider width false (record { code = c; tag = main } ∷ rest)
wide_here width c main rest solid wide = record {
  front = [];
  letter = record { code = c; tag = main };
  back = rest;
  whole = refl;
  not_allowed = refl;
  stands = solid;
  wider = wide;
}

wide_further : {S : Type 0} (width : ℕ) (l : Letter S) (rest : List (Letter S)) → HasWider width false rest
    → HasWider width false (l ∷ rest)
wide_further width l rest h = record {
  front = l ∷ h.front;
  letter = h.letter;
  back = h.back;
  whole = ap (λ ls. l ∷ ls) h.whole;
  not_allowed = refl;
  stands = h.stands;
  wider = h.wider;
}

wide_at : (breaks wide rest : Bool) → ((not breaks && wide) || rest) ≡ true
    → ((breaks ≡ false) × (wide ≡ true)) ⊎ (rest ≡ true)
wide_at true wide rest h = inr h
wide_at false true rest h = inl (refl, refl)
wide_at false false rest h = inr h

pub has_wider : {S : Type 0} (width : ℕ) (source : List (Source S)) → has_wide_text width source ≡ true
    → HasWider width false (letters_of source)
has_wider width [] h = absurd (cc)
has_wider width (letter c main further ∷ rest) h =
    elim (wide_at (is_break_point c) (nat_lt width (width_of c)) (has_wide_text width rest) h) [
      | inl here ↦ wide_here width c main (letters_of rest) here.0 (grind (arith, nat_tests, here.1))
      | inr there ↦ wide_further width (record { code = c; tag = main }) (letters_of rest) (has_wider width rest there)
    ]
has_wider width (fragment name ∷ rest) h = has_wider width rest h

pub wide_never : {S : Type 0} (width : ℕ) (source : List (Source S)) → has_wide_text width source ≡ true
    → NeverFits width false (letters_of source)
wide_never width source h = wider_never width false (letters_of source) (has_wider width source h)
