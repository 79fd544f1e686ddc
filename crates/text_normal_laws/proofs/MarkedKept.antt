-- No marker of normal text is lost.
use Rattle.std.proofs.Common.{◌≡◌, ◌&&◌, [], ◌∷◌, ◌++◌, ◌∙◌, Bool, List, None, Some, ap, append-nil, append_assoc}
use Rattle.std.proofs.Common.{false, flat_map, inl, map, nat_le, not, refl, subst, sym, true, ℕ}
use Rattle.std.specs.Prelude.{Option, fold, filter, is_some, cond, if◌then◌else◌}
use Rattle.std.proofs.lemmas.Bool.{false≢true}
use Rattle.unicode_width.proofs.Computing.{unicode_width}
use Rattle.text_lines.specs.Columns.{columns_of, width_of}
use Rattle.text_lines.specs.Tagged.{Item, character, marker}
use Rattle.text_pieces.specs.Sources.{Source, fragment, is_break_point, is_white_space, letter, names_of}
use Rattle.text_pieces.specs.Items.{has_text, markers_of}
use Rattle.text_pieces.proofs.ElementLemmas.{markers_of-append}
use Rattle.text_normal.specs.Units.{Letter, Piece, first_of, has_columns, has_letters, joined, joining, letters_columns}
use Rattle.text_normal.specs.Units.{piece, pieces_after, space_of, units, with_front}
use Rattle.text_normal.specs.Layout.{Joint, Mark, cuttable, following_items, gap_items, inside, joined_lines, mark}
use Rattle.text_normal.specs.Layout.{marked, marks_items, opens, starts, unit_marks}
use Rattle.text_normal.specs.Greedy.{all_lines, add_units}
use Rattle.text_normal.specs.Riders.{Carried, Rider, carried, carry, in_word_at, is_carrier, normal_lines}
use Rattle.text_normal.specs.Riders.{normal_waiting, note, nothing_carried, plain, plain_letter, ride, settled_lines}
use Rattle.text_normal.specs.Riders.{settled_rest, shown_item, shown_lines}
use Rattle.text_normal.proofs.LayoutFilling.{filled_is_fullest, letters_there}
use Rattle.text_normal.proofs.UnitsLetters.{stands, letters_of, units_letters, units_have_letters}

-- ---- notes

abbrev pub tag_notes : {S : Type 0} → Rider S → List (List ℕ)
tag_notes (plain tag) = []
tag_notes (note name) = name ∷ []

abbrev pub notes : {S : Type 0} → List (Letter (Rider S)) → List (List ℕ)
notes [] = []
notes (l ∷ ls) = tag_notes l.tag ++ notes ls

abbrev pub item_notes : {S : Type 0} → Item (Rider S) → List (List ℕ)
item_notes (character c tag) = tag_notes tag
item_notes (marker name) = name ∷ []

abbrev pub noted : {S : Type 0} → List (Item (Rider S)) → List (List ℕ)
noted [] = []
noted (item ∷ items) = item_notes item ++ noted items

abbrev pub all_noted : {S : Type 0} → List (List (Item (Rider S))) → List (List ℕ)
all_noted [] = []
all_noted (line ∷ lines) = noted line ++ all_noted lines

notes-append : {S : Type 0} (xs ys : List (Letter (Rider S))) → notes (xs ++ ys) ≡ notes xs ++ notes ys
notes-append [] ys = refl
notes-append (x ∷ xs) ys =
    ap (λ ns. tag_notes x.tag ++ ns) (notes-append xs ys) ∙ sym (append_assoc (tag_notes x.tag) (notes xs) (notes ys))

notes-rides : (S : Type 0) (names : List (List ℕ)) → notes (map (λ name. ride {S = S} name) names) ≡ names
notes-rides S [] = refl
notes-rides S (name ∷ names) = ap (λ ns. name ∷ ns) (notes-rides S names)

-- ---- what is shown

shown_markers : {S : Type 0} (items : List (Item (Rider S))) → markers_of (map shown_item items) ≡ noted items
shown_markers [] = refl
shown_markers (character c (plain tag) ∷ items) = shown_markers items
shown_markers (character c (note name) ∷ items) = ap (λ ns. name ∷ ns) (shown_markers items)
shown_markers (marker name ∷ items) = ap (λ ns. name ∷ ns) (shown_markers items)

all_shown : {S : Type 0} (lines : List (List (Item (Rider S))))
    → flat_map (markers_of {S = S}) (map (map shown_item) lines) ≡ all_noted lines
all_shown [] = refl
all_shown {S = S} (line ∷ lines) =
    ap (λ ns. ns ++ flat_map (markers_of {S = S}) (map (map shown_item) lines)) (shown_markers line)
    ∙ ap (λ ns. noted line ++ ns) (all_shown lines)

settled_markers : {S : Type 0} (front : List (Item S)) (lines : List (List (Item S)))
    → flat_map (markers_of {S = S}) (settled_lines front lines) ++ markers_of (settled_rest front lines)
    ≡ markers_of front ++ flat_map (markers_of {S = S}) lines
settled_markers front [] = sym (append-nil (markers_of front))
settled_markers {S = S} front (line ∷ lines) =
    by_text (settled_markers [] lines) (settled_markers (front ++ line) lines) (has_text line)
  where
    by_text : flat_map (markers_of {S = S}) (settled_lines [] lines) ++ markers_of (settled_rest [] lines)
        ≡ flat_map (markers_of {S = S}) lines
        → flat_map (markers_of {S = S}) (settled_lines (front ++ line) lines)
        ++ markers_of (settled_rest (front ++ line) lines)
        ≡ markers_of (front ++ line) ++ flat_map (markers_of {S = S}) lines
        → (b : Bool) → flat_map (markers_of {S = S}) (if b then (front ++ line) ∷ settled_lines [] lines
        else settled_lines (front ++ line) lines)
        ++ markers_of (if b then settled_rest [] lines else settled_rest (front ++ line) lines)
        ≡ markers_of front ++ (markers_of line ++ flat_map (markers_of {S = S}) lines)
    by_text fresh on true =
        append_assoc (markers_of (front ++ line)) (flat_map (markers_of {S = S}) (settled_lines [] lines))
        (markers_of (settled_rest [] lines))
        ∙ ap (λ ns. markers_of (front ++ line) ++ ns) fresh
        ∙ ap (λ ns. ns ++ flat_map (markers_of {S = S}) lines) (markers_of-append front line)
        ∙ append_assoc (markers_of front) (markers_of line) (flat_map (markers_of {S = S}) lines)
    by_text fresh on false =
        on ∙ ap (λ ns. ns ++ flat_map (markers_of {S = S}) lines) (markers_of-append front line)
        ∙ append_assoc (markers_of front) (markers_of line) (flat_map (markers_of {S = S}) lines)

-- ---- marks, whose gaps are plain

abbrev pub IsPlainSpace : {S : Type 0} → Option (Rider S) → Type 0
IsPlainSpace None = Unit {0}
IsPlainSpace (Some (plain tag)) = Unit {0}
IsPlainSpace (Some (note name)) = ⊥

abbrev pub IsPlainGap : {S : Type 0} → Joint (Rider S) → Type 0
IsPlainGap (opens space) = IsPlainSpace space
IsPlainGap starts = Unit {0}
IsPlainGap inside = Unit {0}
IsPlainGap cuttable = Unit {0}

abbrev pub AreGapsPlain : {S : Type 0} → List (Mark (Rider S)) → Type 0
AreGapsPlain [] = Unit {0}
AreGapsPlain (m ∷ ms) = IsPlainGap m.joint × AreGapsPlain ms

abbrev pub letters_in : {S : Type 0} → List (Mark S) → List (Letter S)
letters_in [] = []
letters_in (m ∷ ms) = m.letter ∷ letters_in ms

pub letters_in-append : {S : Type 0} (xs ys : List (Mark S)) → letters_in (xs ++ ys) ≡ letters_in xs ++ letters_in ys
letters_in-append [] ys = refl
letters_in-append (x ∷ xs) ys = ap (λ ls. x.letter ∷ ls) (letters_in-append xs ys)

gaps_front : {S : Type 0} (xs ys : List (Mark (Rider S))) → AreGapsPlain (xs ++ ys) → AreGapsPlain xs
gaps_front [] ys h = tt
gaps_front (x ∷ xs) ys h = (h.0, gaps_front xs ys h.1)

gaps_back : {S : Type 0} (xs ys : List (Mark (Rider S))) → AreGapsPlain (xs ++ ys) → AreGapsPlain ys
gaps_back [] ys h = h
gaps_back (x ∷ xs) ys h = gaps_back xs ys h.1

gaps_both : {S : Type 0} (xs ys : List (Mark (Rider S))) → AreGapsPlain xs → AreGapsPlain ys → AreGapsPlain (xs ++ ys)
gaps_both [] ys h k = k
gaps_both (x ∷ xs) ys h k = (h.0, gaps_both xs ys h.1 k)

gap_noted : {S : Type 0} (joint : Joint (Rider S)) (items : List (Item (Rider S))) → IsPlainGap joint
    → noted (gap_items joint ++ items) ≡ noted items
gap_noted (opens None) items h = refl
gap_noted (opens (Some (plain tag))) items h = refl
gap_noted (opens (Some (note name))) items h = absurd h
gap_noted starts items h = refl
gap_noted inside items h = refl
gap_noted cuttable items h = refl

following_noted : {S : Type 0} (ms : List (Mark (Rider S))) → AreGapsPlain ms
    → noted (following_items ms) ≡ notes (letters_in ms)
following_noted [] h = refl
following_noted (m ∷ ms) h =
    gap_noted m.joint (character m.letter.code m.letter.tag ∷ following_items ms) h.0
    ∙ ap (λ ns. tag_notes m.letter.tag ++ ns) (following_noted ms h.1)

line_noted : {S : Type 0} (ms : List (Mark (Rider S))) → AreGapsPlain ms → noted (marks_items ms)
    ≡ notes (letters_in ms)
line_noted [] h = refl
line_noted (m ∷ ms) h = ap (λ ns. tag_notes m.letter.tag ++ ns) (following_noted ms h.1)

lines_noted : {S : Type 0} (lines : List (List (Mark (Rider S)))) → AreGapsPlain (joined_lines lines)
    → all_noted (map marks_items lines) ≡ notes (letters_in (joined_lines lines))
lines_noted [] h = refl
lines_noted (line ∷ lines) h =
    ap (λ ns. ns ++ all_noted (map marks_items lines)) (line_noted line (gaps_front line (joined_lines lines) h))
    ∙ ap (λ ns. notes (letters_in line) ++ ns) (lines_noted lines (gaps_back line (joined_lines lines) h))
    ∙ sym (ap notes (letters_in-append line (joined_lines lines))
    ∙ notes-append (letters_in line) (letters_in (joined_lines lines)))

-- ---- units

abbrev pub AreSpacesPlain : {S : Type 0} → List (Piece (Rider S)) → Type 0
AreSpacesPlain [] = Unit {0}
AreSpacesPlain (p ∷ ps) = IsPlainSpace p.space × AreSpacesPlain ps

further_letters : {S : Type 0} (further : Joint S) (ls : List (Letter S))
    → letters_in (map (λ x. mark x further) ls) ≡ ls
further_letters further [] = refl
further_letters further (l ∷ ls) = ap (λ rest. l ∷ rest) (further_letters further ls)

marked_letters : {S : Type 0} (first further : Joint S) (ls : List (Letter S)) →
    letters_in (marked first further ls) ≡ ls
marked_letters first further [] = refl
marked_letters first further (l ∷ ls) = ap (λ rest. l ∷ rest) (further_letters further ls)

further_plain : {S : Type 0} (further : Joint (Rider S)) (ls : List (Letter (Rider S))) → IsPlainGap further
    → AreGapsPlain (map (λ x. mark x further) ls)
further_plain further [] h = tt
further_plain further (l ∷ ls) h = (h, further_plain further ls h)

marked_plain : {S : Type 0} (first further : Joint (Rider S)) (ls : List (Letter (Rider S))) → IsPlainGap first
    → IsPlainGap further → AreGapsPlain (marked first further ls)
marked_plain first further [] h k = tt
marked_plain first further (l ∷ ls) h k = (h, further_plain further ls k)

unit_letters : {S : Type 0} (width : ℕ) (p : Piece S) → letters_in (unit_marks width p) ≡ p.letters
unit_letters width p = by_fit (nat_le (letters_columns p.letters) width)
  where
    by_fit : (b : Bool) → letters_in (if b then marked (opens p.space) inside p.letters
        else marked starts cuttable p.letters) ≡ p.letters
    by_fit true = marked_letters (opens p.space) inside p.letters
    by_fit false = marked_letters starts cuttable p.letters

unit_plain : {S : Type 0} (width : ℕ) (p : Piece (Rider S)) → IsPlainSpace p.space → AreGapsPlain (unit_marks width p)
unit_plain width p h = by_fit (nat_le (letters_columns p.letters) width)
  where
    by_fit : (b : Bool) → AreGapsPlain (if b then marked (opens p.space) inside p.letters
        else marked starts cuttable p.letters)
    by_fit true = marked_plain (opens p.space) inside p.letters h tt
    by_fit false = marked_plain starts cuttable p.letters tt tt

pub units_marked : {S : Type 0} (width : ℕ) (ps : List (Piece S))
    → letters_in (flat_map (unit_marks width) ps) ≡ letters_of ps
units_marked width [] = refl
units_marked width (p ∷ ps) =
    letters_in-append (unit_marks width p) (flat_map (unit_marks width) ps)
    ∙ ap (λ ls. ls ++ letters_in (flat_map (unit_marks width) ps)) (unit_letters width p)
    ∙ ap (λ ls. p.letters ++ ls) (units_marked width ps)

units_plain : {S : Type 0} (width : ℕ) (ps : List (Piece (Rider S))) → AreSpacesPlain ps
    → AreGapsPlain (flat_map (unit_marks width) ps)
units_plain width [] h = tt
units_plain width (p ∷ ps) h =
    gaps_both (unit_marks width p) (flat_map (unit_marks width) ps) (unit_plain width p h.0) (units_plain width ps h.1)

-- ---- letters that ride

-- a letter that is a note is U+2060
abbrev pub IsRiding : {S : Type 0} → ℕ → Rider S → Type 0
IsRiding code (plain tag) = Unit {0}
IsRiding code (note name) = code ≡ 0x2060

abbrev pub AreRiding : {S : Type 0} → List (Letter (Rider S)) → Type 0
AreRiding [] = Unit {0}
AreRiding (l ∷ ls) = IsRiding l.code l.tag × AreRiding ls

pub riding_both : {S : Type 0} (xs ys : List (Letter (Rider S))) → AreRiding xs → AreRiding ys → AreRiding (xs ++ ys)
riding_both [] ys h k = k
riding_both (x ∷ xs) ys h k = (h.0, riding_both xs ys h.1 k)

rides_ride : (S : Type 0) (names : List (List ℕ)) → AreRiding (map (λ name. ride {S = S} name) names)
rides_ride S [] = tt
rides_ride S (name ∷ names) = (refl, rides_ride S names)

ride_is_no_break : is_break_point 0x2060 ≡ false
ride_is_no_break = refl

ride_has_columns : is_some (columns_of 0x2060) ≡ true
unfolding unicode_width columns_of width_of
ride_has_columns = refl

ride_stands : (c : ℕ) → c ≡ 0x2060 → (not (is_break_point c) && is_some (columns_of c)) ≡ true
ride_stands c is =
    ap (λ d. not (is_break_point d) && is_some (columns_of d)) is
    ∙ ap (λ b. not b && is_some (columns_of 0x2060)) ride_is_no_break ∙ ride_has_columns

space_plain : {S : Type 0} (code : ℕ) (tag : Rider S) → IsRiding code tag → is_break_point code ≡ true
    → IsPlainSpace (if is_white_space code then Some tag else None)
space_plain code (plain tag) rides breaks = by_white (is_white_space code)
  where
    by_white : (b : Bool) → IsPlainSpace (if b then Some (plain tag) else None)
    by_white true = tt
    by_white false = tt
space_plain code (note name) rides breaks =
    absurd (false≢true (sym (ap is_break_point rides ∙ ride_is_no_break) ∙ breaks))

front_plain : {S : Type 0} (l : Letter (Rider S)) (ps : List (Piece (Rider S))) → AreSpacesPlain ps
    → AreSpacesPlain (with_front l ps)
front_plain l [] h = tt
front_plain l (p ∷ ps) h = (h.0, h.1)

pieces_plain : {S : Type 0} (space : Option (Rider S)) (ls : List (Letter (Rider S))) → IsPlainSpace space →
    AreRiding ls
    → AreSpacesPlain (pieces_after space ls)
pieces_plain space [] h rides = (h, tt)
pieces_plain {S = S} space (l ∷ ls) h rides =
    by_break (λ next plain. pieces_plain next ls plain rides.1) (is_break_point l.code) refl
  where
    by_break : ((next : Option (Rider S)) → IsPlainSpace next → AreSpacesPlain (pieces_after next ls))
        → (b : Bool) → is_break_point l.code ≡ b
        → AreSpacesPlain (if b then piece space [] ∷ pieces_after (space_of l) ls
        else with_front l (pieces_after space ls))
    by_break rest true is = (h, rest (space_of l) (space_plain l.code l.tag rides.0 is))
    by_break rest false is = front_plain l (pieces_after space ls) (rest space h)

first_plain : {S : Type 0} (s t : Option (Rider S)) → IsPlainSpace s → IsPlainSpace t → IsPlainSpace (first_of s t)
first_plain None t h k = k
first_plain (Some tag) t h k = h

joining_plain : {S : Type 0} (p : Piece (Rider S)) (ps : List (Piece (Rider S))) → IsPlainSpace p.space
    → AreSpacesPlain ps → AreSpacesPlain (joining p ps)
joining_plain p [] h k = (h, tt)
joining_plain p (q ∷ qs) h k = by_columns (has_columns p.letters)
  where
    by_columns : (b : Bool) → AreSpacesPlain (if b then p ∷ q ∷ qs
        else piece (first_of p.space q.space) (p.letters ++ q.letters) ∷ qs)
    by_columns true = (h, (k.0, k.1))
    by_columns false = (first_plain p.space q.space h k.0, k.1)

joined_plain : {S : Type 0} (ps : List (Piece (Rider S))) → AreSpacesPlain ps → AreSpacesPlain (joined ps)
joined_plain [] h = tt
joined_plain (p ∷ ps) h = joining_plain p (joined ps) h.0 (joined_plain ps h.1)

filter_plain_at : {S : Type 0} (s : Option (Rider S)) (ls : List (Letter (Rider S))) (ps : List (Piece (Rider S)))
    → IsPlainSpace s → AreSpacesPlain (filter has_letters ps) → AreSpacesPlain (filter has_letters (piece s ls ∷ ps))
filter_plain_at s [] ps h rest = rest
filter_plain_at s (l ∷ ls) ps h rest = (h, rest)

filter_plain : {S : Type 0} (ps : List (Piece (Rider S))) → AreSpacesPlain ps → AreSpacesPlain (filter has_letters ps)
filter_plain [] h = tt
filter_plain (p ∷ ps) h = filter_plain_at p.space p.letters ps h.0 (filter_plain ps h.1)

standing_notes : {S : Type 0} (ls : List (Letter (Rider S))) → AreRiding ls → notes (filter stands ls) ≡ notes ls
standing_notes [] h = refl
standing_notes {S = S} (l ∷ ls) h = by_tag l.tag refl h.0 (standing_notes ls h.1)
  where
    bare : (b : Bool) → tag_notes l.tag ≡ [] → notes (filter stands ls) ≡ notes ls
        → notes (cond b (l ∷ filter stands ls) (filter stands ls)) ≡ notes ls
    bare true none rest = ap (λ ns. ns ++ notes (filter stands ls)) none ∙ rest
    bare false none rest = rest

    by_tag : (tag : Rider S) → l.tag ≡ tag → IsRiding l.code tag → notes (filter stands ls) ≡ notes ls
        → notes (cond (stands l) (l ∷ filter stands ls) (filter stands ls)) ≡ tag_notes l.tag ++ notes ls
    by_tag (plain t) is rides rest =
        bare (stands l) (ap tag_notes is) rest ∙ ap (λ ns. ns ++ notes ls) (sym (ap tag_notes is))
    by_tag (note name) is rides rest =
        ap (λ b. notes (cond b (l ∷ filter stands ls) (filter stands ls))) (ride_stands l.code rides)
        ∙ ap (λ ns. tag_notes l.tag ++ ns) rest

lines_have_notes : {S : Type 0} (width : ℕ) (ls : List (Letter (Rider S))) → AreRiding ls
    → all_noted (map marks_items (all_lines (add_units width (units ls)))) ≡ notes ls
lines_have_notes width ls rides =
    let lines = all_lines (add_units width (units ls)) in
    let whole = (filled_is_fullest width true (units ls) (inl refl)
    (letters_there (units ls) (units_have_letters ls))).layout.whole in
    let spaces = filter_plain (joined (pieces_after None ls)) (joined_plain (pieces_after None ls)
    (pieces_plain None ls tt rides)) in
    lines_noted lines (subst AreGapsPlain (sym whole) (units_plain width (units ls) spaces))
    ∙ ap (λ ms. notes (letters_in ms)) whole ∙ ap notes (units_marked width (units ls) ∙ units_letters ls)
    ∙ standing_notes ls rides

-- ---- what is carried

pub record IsCarrying {S : Type 0} (names : List (List ℕ)) (k : Carried S) : Type 0 where
  pub riding : AreRiding k.letters
  pub all : notes k.letters ++ k.waiting ≡ names
  pub clear : k.in_word ≡ true → k.waiting ≡ []

in_word_before : (breaks some here before : Bool) → (not breaks && some) ≡ false
    → (if breaks then false else (if some then here else before)) ≡ true → before ≡ true
in_word_before true some here before no_carrier is = absurd (false≢true is)
in_word_before false true here before no_carrier is = absurd (false≢true (sym no_carrier))
in_word_before false false here before no_carrier is = is

letter_carried : {S : Type 0} (width c : ℕ) (main further : S) (names : List (List ℕ)) (k : Carried S)
    → IsCarrying names k → IsCarrying names (carry width k (letter c main further))
letter_carried {S = S} width c main further names k h = by_carrier (is_carrier c) refl
  where
    by_carrier : (b : Bool) → is_carrier c ≡ b → IsCarrying names (if b then record {
      letters = k.letters ++ (map (λ name. ride name) k.waiting ++ plain_letter c main ∷ []);
      waiting = [];
      in_word = in_word_at width k.in_word c;
    } else record k { letters = k.letters ++ plain_letter c main ∷ []; in_word = in_word_at width k.in_word c })
    by_carrier true is = record {
      riding = riding_both k.letters (map (λ name. ride name) k.waiting ++ plain_letter c main ∷ []) h.riding
          (riding_both (map (λ name. ride name) k.waiting) (plain_letter c main ∷ []) (rides_ride S k.waiting) (
            tt,
            tt,
          ));
      all = append-nil (notes (k.letters ++ (map (λ name. ride name) k.waiting ++ plain_letter c main ∷ [])))
          ∙ notes-append k.letters (map (λ name. ride name) k.waiting ++ plain_letter c main ∷ [])
          ∙ ap (λ ns. notes k.letters ++ ns)
          (notes-append (map (λ name. ride name) k.waiting) (plain_letter c main ∷ [])
          ∙ append-nil (notes (map (λ name. ride {S = S} name) k.waiting)) ∙ notes-rides S k.waiting) ∙ h.all;
      clear = λ _. refl;
    }
    by_carrier false is = record {
      riding = riding_both k.letters (plain_letter c main ∷ []) h.riding (tt, tt);
      all = ap (λ ns. ns ++ k.waiting) (notes-append k.letters (plain_letter c main ∷ [])
          ∙ append-nil (notes k.letters)) ∙ h.all;
      clear = λ within. h.clear (in_word_before (is_break_point c) (is_some (columns_of c)) (nat_le (width_of c) width)
          k.in_word is within);
    }

fragment_carried : {S : Type 0} (width : ℕ) (name : List ℕ) (names : List (List ℕ)) (k : Carried S)
    → IsCarrying names k → IsCarrying (names ++ name ∷ []) (carry width k (fragment name))
fragment_carried {S = S} width name names k h = by_word k.in_word refl
  where
    by_word : (b : Bool) → k.in_word ≡ b → IsCarrying (names ++ name ∷ []) (if b
        then record k { letters = k.letters ++ ride name ∷ [] } else record k { waiting = k.waiting ++ name ∷ [] })
    by_word true is =
        let none = h.clear is in
        record {
          riding = riding_both k.letters (ride name ∷ []) h.riding (refl, tt);
          all = ap (λ ns. notes (k.letters ++ ride name ∷ []) ++ ns) none
              ∙ append-nil (notes (k.letters ++ ride name ∷ [])) ∙ notes-append k.letters (ride name ∷ [])
              ∙ ap (λ ns. ns ++ name ∷ []) (sym (append-nil (notes k.letters))
              ∙ ap (λ ns. notes k.letters ++ ns) (sym none) ∙ h.all);
          clear = h.clear;
        }
    by_word false is = record {
      riding = h.riding;
      all = sym (append_assoc (notes k.letters) k.waiting (name ∷ [])) ∙ ap (λ ns. ns ++ name ∷ []) h.all;
      clear = λ within. absurd (false≢true (sym is ∙ within));
    }

pub all_carried : {S : Type 0} (width : ℕ) (source : List (Source S)) (names : List (List ℕ)) (k : Carried S)
    → IsCarrying names k → IsCarrying (names ++ names_of source) (fold (carry width) k source)
all_carried width [] names k h =
    record { riding = h.riding; all = h.all ∙ sym (append-nil names); clear = h.clear }
all_carried width (letter c main further ∷ source) names k h =
    all_carried width source names (carry width k (letter c main further))
    (letter_carried width c main further names k h)
all_carried width (fragment name ∷ source) names k h =
    subst (λ ns. IsCarrying ns (fold (carry width) (carry width k (fragment name)) source))
    (append_assoc names (name ∷ []) (names_of source))
    (all_carried width source (names ++ name ∷ []) (carry width k (fragment name))
    (fragment_carried width name names k h))

pub markers_kept : {S : Type 0} (width : ℕ) (source : List (Source S))
    → flat_map (markers_of {S = S}) (normal_lines width source) ++ normal_waiting width source ≡ names_of source
unfolding normal_lines normal_waiting
markers_kept {S = S} width source =
    let k = carried width source in
    let h = all_carried width source [] nothing_carried (record { riding = tt; all = refl; clear = λ within. refl }) in
    let lines = shown_lines width k.letters in
    sym (append_assoc (flat_map (markers_of {S = S}) (settled_lines [] lines)) (markers_of (settled_rest [] lines))
    k.waiting)
    ∙ ap (λ ns. ns ++ k.waiting) (settled_markers [] lines
    ∙ all_shown (map marks_items (all_lines (add_units width (units k.letters))))
    ∙ lines_have_notes width k.letters h.riding) ∙ h.all
