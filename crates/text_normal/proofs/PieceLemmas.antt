-- Pieces of a text, one after another.
use Rattle.std.proofs.Common.{◌≡◌, ◌&&◌, ◌||◌, [], ◌∷◌, ◌++◌, ◌∙◌, Bool, List, ap, append-nil, append_assoc, arith}
use Rattle.std.proofs.Common.{false, length, map, nat_le, nat_lt, not, refl, subst, sym, true, ℕ}
use Rattle.std.specs.Prelude.{Result, Ok, Err, OnOk, All, IsTrue, fold, if◌then◌else◌}
use Rattle.std.proofs.lemmas.Bool.Decides.{nat_tests}
use Rattle.std.proofs.lemmas.Grind.{flat_map-append}
use Rattle.std.proofs.lemmas.List.Elements.{All-nil, All-cons, All-head, All-tail}
use Rattle.std.proofs.lemmas.List.Sums.{fold-append}
use Rattle.text_lines.specs.Columns.{width_of}
use Rattle.text_lines.specs.Tagged.{Item}
use Rattle.text_pieces.specs.Sources.{Source, letter, fragment, sourced, piece_sources, sources_of, is_break_point}
use Rattle.text_pieces.specs.Items.{has_text, markers_of}
use Rattle.text_pieces.specs.declared.piece.Piece.{Piece}
use Rattle.text_normal.specs.Units.{Letter, lettered, units}
use Rattle.text_normal.specs.Layout.{Mark, marks_items, IsAllowed}
use Rattle.text_normal.specs.Greedy.{all_lines, add_units}
use Rattle.text_normal.specs.NormalStates.{HasRead, AllHaveRoom, has_room}
use Rattle.text_normal.specs.Riders.{Carried, Rider, carried, carry, has_wide_text, is_carrier, normal_waiting}
use Rattle.text_normal.specs.Riders.{nothing_carried, plain_letter, ride, settled_rest, shown_lines}
use Rattle.text_normal.specs.Letters.{letters_of, has_marker}
use Rattle.text_normal.specs.MarkedStates.{Carries, CarriesOn, MeetsWide, CarriesFront, ReadsSources}
use Rattle.text_normal.specs.declared.marked.MarkedText.{MarkedText}
use Rattle.text_normal.specs.declared.normal.NormalText.{NormalText}
use Rattle.text_normal.proofs.MarkedLemmas.{has_wide-append, word_step, bare_step, marker_at}
use Rattle.text_normal.proofs.PlainLines.{carried_plain, lines_shown, all_allowed, line_has_text}

-- ---- texts of letters

pub has_marker_sourced : {S : Type 0} (cs : List ℕ) (m f : S) → has_marker (sourced cs m f) ≡ false
has_marker_sourced [] m f = refl
has_marker_sourced (c ∷ cs) m f = has_marker_sourced cs m f

pub letters_of_sourced : {S : Type 0} (cs : List ℕ) (m f : S) → letters_of (sourced cs m f) ≡ lettered cs m
letters_of_sourced [] m f = refl
letters_of_sourced (c ∷ cs) m f = ap (λ ls. record { code = c; tag = m } ∷ ls) (letters_of_sourced cs m f)

pub has_marker-append : {S : Type 0} (xs ys : List (Source S)) → has_marker (xs ++ ys)
    ≡ (has_marker xs || has_marker ys)
has_marker-append [] ys = refl
has_marker-append (letter c m f ∷ xs) ys = has_marker-append xs ys
has_marker-append (fragment name ∷ xs) ys = refl

pub letters_of-append : {S : Type 0} (xs ys : List (Source S)) → letters_of (xs ++ ys) ≡ letters_of xs ++ letters_of ys
letters_of-append [] ys = refl
letters_of-append (letter c m f ∷ xs) ys = ap (λ ls. record { code = c; tag = m } ∷ ls) (letters_of-append xs ys)
letters_of-append (fragment name ∷ xs) ys = letters_of-append xs ys

-- ---- markers among pieces

pub marker_here : {S : Type 0} (xs ys : List (Source S)) → has_marker xs ≡ true → has_marker (xs ++ ys) ≡ true
marker_here xs ys h = has_marker-append xs ys ∙ ap (λ b. b || has_marker ys) h

pub marker_after : {S : Type 0} (xs ys : List (Source S)) → has_marker xs ≡ false
    → has_marker (xs ++ ys) ≡ has_marker ys
marker_after xs ys h = has_marker-append xs ys ∙ ap (λ b. b || has_marker ys) h

-- ---- reading

pub reads_nothing : {T S : Type 0} (seen : T → S) (old : NormalText T) (all : List (Source S))
    → ReadsSources seen old old all all
reads_nothing seen old all = record {
  front = [];
  whole = refl;
  reads = λ width overflow read h. subst (λ ls. HasRead seen width overflow ls old) (sym (append-nil read)) h;
}

pub reads_more : {T S : Type 0} (seen : T → S) (old mid new : NormalText T) (all here rest : List (Source S))
    → ReadsSources seen old mid all (here ++ rest)
    → ((width : ℕ) (overflow : Bool) (read : List (Letter S)) → HasRead seen width overflow read mid
    → HasRead seen width overflow (read ++ letters_of here) new)
    → ReadsSources seen old new all rest
reads_more seen old mid new all here rest r step = record {
  front = r.front ++ here;
  whole = r.whole ∙ sym (append_assoc r.front here rest);
  reads = λ width overflow read h. subst (λ ls. HasRead seen width overflow ls new)
      (append_assoc read (letters_of r.front) (letters_of here)
      ∙ ap (λ ls. read ++ ls) (sym (letters_of-append r.front here)))
      (step width overflow (read ++ letters_of r.front) (r.reads width overflow read h));
}

pub reads_all : {T S : Type 0} (seen : T → S) (old new : NormalText T) (all rest : List (Source S)) → rest ≡ []
    → ReadsSources seen old new all rest
    → (width : ℕ) (overflow : Bool) (read : List (Letter S)) → HasRead seen width overflow read old
    → HasRead seen width overflow (read ++ letters_of all) new
reads_all seen old new all rest none r width overflow read h =
    subst (λ xs. HasRead seen width overflow (read ++ letters_of xs) new)
    (sym (r.whole ∙ ap (λ xs. r.front ++ xs) none ∙ append-nil r.front)) (r.reads width overflow read h)

or_true_left : (a b : Bool) → a ≡ true → (a || b) ≡ true
or_true_left true b e = refl
or_true_left false b e = cc

or_true_right : (a b : Bool) → b ≡ true → (a || b) ≡ true
or_true_right true b e = refl
or_true_right false b e = e

pub wide_within : {S : Type 0} (width : ℕ) (all front here rest : List (Source S)) → all ≡ front ++ (here ++ rest)
    → has_wide_text width here ≡ true → has_wide_text width all ≡ true
wide_within width all front here rest whole wide =
    ap (has_wide_text width) whole ∙ has_wide-append width front (here ++ rest)
    ∙ or_true_right (has_wide_text width front) (has_wide_text width (here ++ rest))
    (has_wide-append width here rest ∙ or_true_left (has_wide_text width here) (has_wide_text width rest) wide)

pub reads_wide : {T S : Type 0} (seen : T → S) (old mid : NormalText T) (all here rest : List (Source S))
    → ReadsSources seen old mid all (here ++ rest)
    → ((width : ℕ) (overflow : Bool) (read : List (Letter S)) → HasRead seen width overflow read mid
    → (overflow ≡ false) × (has_wide_text width here ≡ true))
    → (width : ℕ) (overflow : Bool) (read : List (Letter S)) → HasRead seen width overflow read old
    → (overflow ≡ false) × (has_wide_text width all ≡ true)
reads_wide seen old mid all here rest r wide width overflow read h =
    let found = wide width overflow (read ++ letters_of r.front) (r.reads width overflow read h) in
    (found.0, wide_within width all r.front here rest r.whole found.1)

-- ---- carrying

pub carries_nothing : {T S : Type 0} (seen : T → S) (old : MarkedText T) (all : List (Source S))
    → CarriesFront seen old old all all
carries_nothing seen old all = record {
  front = [];
  whole = refl;
  carries = record { carries = λ width overflow k h. h };
}

pub carries_more : {T S : Type 0} (seen : T → S) (old mid new : MarkedText T) (all here rest : List (Source S))
    → CarriesFront seen old mid all (here ++ rest) → CarriesOn seen mid new here → CarriesFront seen old new all rest
carries_more seen old mid new all here rest r step = record {
  front = r.front ++ here;
  whole = r.whole ∙ sym (append_assoc r.front here rest);
  carries = record {
    carries = λ width overflow k h. subst (λ j. Carries seen width overflow j new)
        (sym (fold-append (carry width) k r.front here))
        (step.carries width overflow (fold (carry width) k r.front) (r.carries.carries width overflow k h));
  };
}

pub carries_all : {T S : Type 0} (seen : T → S) (old new : MarkedText T) (all rest : List (Source S)) → rest ≡ []
    → CarriesFront seen old new all rest → CarriesOn seen old new all
carries_all seen old new all rest none r =
    subst (CarriesOn seen old new) (sym (r.whole ∙ ap (λ xs. r.front ++ xs) none ∙ append-nil r.front)) r.carries

pub carries_wide : {T S : Type 0} (seen : T → S) (old mid : MarkedText T) (all here rest : List (Source S))
    → CarriesFront seen old mid all (here ++ rest) → MeetsWide seen mid here → MeetsWide seen old all
carries_wide seen old mid all here rest r wide = record {
  wide = λ width overflow k h.
      let found = wide.wide width overflow (fold (carry width) k r.front) (r.carries.carries width overflow k h) in
      (found.0, wide_within width all r.front here rest r.whole found.1);
}

-- ---- what waits of a text without markers

rest_at : {S : Type 0} (line : List (Item S)) (lines : List (List (Item S))) → has_text line ≡ true
    → settled_rest [] lines ≡ [] → settled_rest [] (line ∷ lines) ≡ []
rest_at line lines has rest =
    ap (λ t. if t then settled_rest [] lines else settled_rest ([] ++ line) lines) has ∙ rest

rest_plain : {S : Type 0} (width : ℕ) (lines : List (List (Mark S))) → All (IsAllowed width true) lines
    → settled_rest [] (map marks_items lines) ≡ []
rest_plain width [] h = refl
rest_plain width (line ∷ lines) h =
    rest_at (marks_items line) (map marks_items lines)
    (line_has_text width line (All-head (IsAllowed width true) line lines h))
    (rest_plain width lines (All-tail (IsAllowed width true) line lines h))

pub plain_waiting : {S : Type 0} (width : ℕ) (source : List (Source S)) → has_marker source ≡ false
    → normal_waiting width source ≡ []
unfolding normal_waiting
plain_waiting width source none =
    let ls = letters_of source in
    let plain = carried_plain width source [] false none in
    ap (λ names. markers_of (settled_rest [] (shown_lines width (carried width source).letters)) ++ names) plain.waiting
    ∙ append-nil (markers_of (settled_rest [] (shown_lines width (carried width source).letters)))
    ∙ ap (λ letters. markers_of (settled_rest [] (shown_lines width letters))) plain.letters
    ∙ ap (λ lines. markers_of (settled_rest [] lines)) (lines_shown width ls)
    ∙ ap markers_of (rest_plain width (all_lines (add_units width (units ls))) (all_allowed width ls))

-- ---- room

room_back : (over breaks : Bool) (n w : ℕ) (rest : Bool) → IsTrue (over || (breaks || nat_le n w))
    → (over || not rest) ≡ true → (over || not ((not breaks && nat_lt w n) || rest)) ≡ true
room_back true breaks n w rest here there = refl
room_back false true n w rest here there = there
room_back false false n w rest here there = low_room (nat_lt w n) (grind (arith, nat_tests, here)) there
  where
    low_room : (b : Bool) → b ≡ false → not rest ≡ true → not (b || rest) ≡ true
    low_room true e there = cc
    low_room false e there = there

over_none : (over : Bool) → (over || true) ≡ true
over_none true = refl
over_none false = refl

pub room_of : {S : Type 0} (width : ℕ) (overflow : Bool) (source : List (Source S))
    → AllHaveRoom width overflow (letters_of source) → (overflow || not (has_wide_text width source)) ≡ true
room_of width overflow [] h = over_none overflow
room_of width overflow (letter c m f ∷ rest) h =
    let l : Letter _ = record { code = c; tag = m } in
    room_back overflow (is_break_point c) (width_of c) width (has_wide_text width rest)
    (All-head (λ x. IsTrue (has_room width overflow x)) l (letters_of rest) h)
    (room_of width overflow rest (All-tail (λ x. IsTrue (has_room width overflow x)) l (letters_of rest) h))
room_of width overflow (fragment name ∷ rest) h = room_of width overflow rest h

-- the pieces of a slice: the first one's sources, and those of the others
pub first_sources : {T S : Type 0} (seen : T → S) (all : List (Piece T)) (first : Piece T) (others : List (Piece T))
    → all ≡ first ∷ others → sources_of seen all ≡ piece_sources seen first ++ sources_of seen others
first_sources seen all first others split = ap (sources_of seen) split

pub no_sources : {T S : Type 0} (seen : T → S) (all : List (Piece T)) → length all ≡ 0 → sources_of seen all ≡ []
no_sources seen [] none = refl
no_sources seen (p ∷ ps) none = absurd (omega (arith, none))

-- ---- room of what is carried

pub all_parts : {X : Type 0} (P : X → Type 0) (xs ys : List X) → All P (xs ++ ys) → All P xs × All P ys
all_parts P [] ys h = (All-nil P, h)
all_parts P (x ∷ xs) ys h =
    let rest = all_parts P xs ys (All-tail P x (xs ++ ys) h) in
    (All-cons P x xs (All-head P x (xs ++ ys) h) rest.0, rest.1)

letter_room : {S : Type 0} (width : ℕ) (overflow : Bool) (before more : List (Letter (Rider S))) (c : ℕ) (m : S)
    → AllHaveRoom width overflow (before ++ (more ++ plain_letter c m ∷ []))
    → AllHaveRoom width overflow before × IsTrue (has_room width overflow (plain_letter c m))
letter_room width overflow before more c m h =
    let P : Letter (Rider _) → Type 0 = λ l. IsTrue (has_room width overflow l) in
    let parts = all_parts P before (more ++ plain_letter c m ∷ []) h in
    let last = all_parts P more (plain_letter c m ∷ []) parts.1 in
    (parts.0, All-head P (plain_letter c m) [] last.1)

step_room : {S : Type 0} (width : ℕ) (overflow : Bool) (k : Carried S) (c : ℕ) (m f : S) (b : Bool) → is_carrier c ≡ b
    → AllHaveRoom width overflow (carry width k (letter c m f)).letters
    → AllHaveRoom width overflow k.letters × IsTrue (has_room width overflow (plain_letter c m))
step_room width overflow k c m f true e h =
    letter_room width overflow k.letters (map (λ name. ride name) k.waiting) c m
    (subst (AllHaveRoom width overflow) (ap (λ j. j.letters) (word_step width k c m f e)) h)
step_room width overflow k c m f false e h =
    letter_room width overflow k.letters [] c m
    (subst (AllHaveRoom width overflow) (ap (λ j. j.letters) (bare_step width k c m f e)) h)

marker_room : {S : Type 0} (width : ℕ) (overflow : Bool) (k : Carried S) (name : List ℕ) (b : Bool) → k.in_word ≡ b
    → AllHaveRoom width overflow (carry width k (fragment name)).letters → AllHaveRoom width overflow k.letters
marker_room width overflow k name true e h =
    (all_parts (λ l. IsTrue (has_room width overflow l)) k.letters (ride name ∷ [])
    (subst (AllHaveRoom width overflow) (ap (λ j. j.letters) (marker_at width k name true e)) h)).0
marker_room width overflow k name false e h =
    subst (AllHaveRoom width overflow) (ap (λ j. j.letters) (marker_at width k name false e)) h

carried_parts : {S : Type 0} (width : ℕ) (overflow : Bool) (source : List (Source S)) (k : Carried S)
    → AllHaveRoom width overflow (fold (carry width) k source).letters
    → AllHaveRoom width overflow k.letters × ((overflow || not (has_wide_text width source)) ≡ true)
carried_parts width overflow [] k h = (h, over_none overflow)
carried_parts width overflow (letter c m f ∷ rest) k h =
    let parts = carried_parts width overflow rest (carry width k (letter c m f)) h in
    let here = step_room width overflow k c m f (is_carrier c) refl parts.0 in
    (here.0, room_back overflow (is_break_point c) (width_of c) width (has_wide_text width rest) here.1 parts.1)
carried_parts width overflow (fragment name ∷ rest) k h =
    let parts = carried_parts width overflow rest (carry width k (fragment name)) h in
    (marker_room width overflow k name k.in_word refl parts.0, parts.1)

pub carried_room : {S : Type 0} (width : ℕ) (overflow : Bool) (source : List (Source S))
    → AllHaveRoom width overflow (carried width source).letters
    → (overflow || not (has_wide_text width source)) ≡ true
carried_room width overflow source h = (carried_parts width overflow source nothing_carried h).1

-- ---- results

pub err_same : {A E : Type 0} (a b : E) (r : Result A E) → r ≡ Err a → r ≡ Err b → a ≡ b
err_same a b r first second = cc

pub ok_always : {A E : Type 0} (P : Type 0) (r : Result A E) → P → OnOk r P
ok_always P (Ok x) h = h
ok_always P (Err e) h = tt

-- the pieces of a list without its last, and that one
pub last_sources : {T S : Type 0} (seen : T → S) (all front : List (Piece T)) (last : Piece T)
    → all ≡ front ++ last ∷ [] → sources_of seen all ≡ sources_of seen front ++ piece_sources seen last
last_sources seen all front last e =
    ap (sources_of seen) e ∙ flat_map-append (piece_sources seen) front (last ∷ [])
    ∙ ap (λ back. sources_of seen front ++ back) (append-nil (piece_sources seen last))
