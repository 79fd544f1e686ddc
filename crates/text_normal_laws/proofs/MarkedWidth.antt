-- Lines of normal text with its markers keep the width.
use Rattle.std.proofs.Common.{◌≡◌, ◌≤◌, ◌&&◌, ◌||◌, [], ◌∷◌, ◌++◌, ◌∙◌, Bool, List, ap, arith, false, map, nat_le}
use Rattle.std.proofs.Common.{nat_lt, not, refl, subst, true, ℕ}
use Rattle.std.specs.Prelude.{All, IsTrue, fold, if◌then◌else◌}
use Rattle.std.proofs.lemmas.Bool.Decides.{nat_tests}
use Rattle.std.proofs.lemmas.List.Elements.{All-nil, All-cons, All-head, All-tail, All-append}
use Rattle.text_lines.specs.Columns.{width_of}
use Rattle.text_lines.specs.Tagged.{Item, character, marker, line_columns}
use Rattle.text_pieces.specs.Sources.{Source, letter, fragment, is_break_point}
use Rattle.text_pieces.specs.Items.{has_text}
use Rattle.text_pieces.proofs.ItemColumns.{line_columns-append, line_columns-cons, no_columns}
use Rattle.text_normal.specs.Units.{Letter, units}
use Rattle.text_normal.specs.Layout.{marks_items}
use Rattle.text_normal.specs.Greedy.{all_lines, add_units}
use Rattle.text_normal.specs.NormalStates.{AllHaveRoom, has_room}
use Rattle.text_normal.specs.Riders.{Carried, Rider, carried, carry, has_wide_text, in_word_at, is_carrier}
use Rattle.text_normal.specs.Riders.{normal_lines, note, nothing_carried, plain, plain_letter, ride, settled_lines}
use Rattle.text_normal.specs.Riders.{shown_item, shown_lines}
use Rattle.text_normal.proofs.UnitsReading.{read_is_units}
use Rattle.text_normal.proofs.NormalFinal.{lines_are, lines_within}
use Rattle.text_normal.proofs.MarkedLemmas.{no_width}

-- ---- each letter has room

or_zero : (b : Bool) (width : ℕ) → (b || nat_le 0 width) ≡ true
or_zero true width = refl
or_zero false width = grind (arith, nat_tests)

ride_room : (S : Type 0) (width : ℕ) (name : List ℕ) → IsTrue (has_room width false (ride {S = S} name))
ride_room S width name =
    ap (λ n. is_break_point 0x2060 || nat_le n width) no_width ∙ or_zero (is_break_point 0x2060) width

rides_room : (S : Type 0) (width : ℕ) (names : List (List ℕ))
    → AllHaveRoom width false (map (λ name. ride {S = S} name) names)
rides_room S width [] = All-nil (λ l. IsTrue (has_room width false l))
rides_room S width (name ∷ names) =
    All-cons (λ l. IsTrue (has_room width false l)) (ride name) (map (λ n. ride n) names) (ride_room S width name)
    (rides_room S width names)

le_unless : (n width : ℕ) → nat_lt width n ≡ false → nat_le n width ≡ true
le_unless n width h = grind (arith, nat_tests, h)

room_unless : (breaks wide rest : Bool) (n width : ℕ) → nat_lt width n ≡ wide → ((not breaks && wide) || rest) ≡ false
    → ((breaks || nat_le n width) ≡ true) × (rest ≡ false)
room_unless true wide rest n width is h = (refl, h)
room_unless false true rest n width is h = cc
room_unless false false rest n width is h = (le_unless n width is, h)

one_room : {S : Type 0} (width c : ℕ) (main : S) → (is_break_point c || nat_le (width_of c) width) ≡ true
    → AllHaveRoom width false (plain_letter c main ∷ [])
one_room width c main h =
    All-cons (λ l. IsTrue (has_room width false l)) (plain_letter c main) [] h
    (All-nil (λ l. IsTrue (has_room width false l)))

pub carried_room : {S : Type 0} (width : ℕ) (source : List (Source S)) (k : Carried S) →
    has_wide_text width source ≡ false
    → AllHaveRoom width false k.letters → AllHaveRoom width false (fold (carry width) k source).letters
carried_room width [] k narrow room = room
carried_room {S = S} width (letter c main further ∷ source) k narrow room =
    let parts =
    room_unless (is_break_point c) (nat_lt width (width_of c)) (has_wide_text width source) (width_of c) width
    refl narrow in
    let P = λ (l : Letter (Rider S)). IsTrue (has_room width false l) in
    let one = one_room width c main parts.0 in
    by_carrier (λ next here. carried_room width source next parts.1 here)
    (All-append P k.letters (plain_letter c main ∷ []) room one)
    (All-append P k.letters (map (λ name. ride name) k.waiting ++ plain_letter c main ∷ []) room
    (All-append P (map (λ name. ride name) k.waiting) (plain_letter c main ∷ []) (rides_room S width k.waiting) one))
    (is_carrier c)
  where
    by_carrier : ((next : Carried S) → AllHaveRoom width false next.letters
        → AllHaveRoom width false (fold (carry width) next source).letters)
        → AllHaveRoom width false (k.letters ++ plain_letter c main ∷ [])
        → AllHaveRoom width false (k.letters ++ (map (λ name. ride name) k.waiting ++ plain_letter c main ∷ []))
        → (b : Bool) → AllHaveRoom width false (fold (carry width) (if b then record {
          letters = k.letters ++ (map (λ name. ride name) k.waiting ++ plain_letter c main ∷ []);
          waiting = [];
          in_word = in_word_at width k.in_word c;
        } else record k { letters = k.letters ++ plain_letter c main ∷ []; in_word = in_word_at width k.in_word c })
        source).letters
    by_carrier rest without with_rides true = rest (record {
      letters = k.letters ++ (map (λ name. ride name) k.waiting ++ plain_letter c main ∷ []);
      waiting = [];
      in_word = in_word_at width k.in_word c;
    }) with_rides
    by_carrier rest without with_rides false =
        rest (record k { letters = k.letters ++ plain_letter c main ∷ []; in_word = in_word_at width k.in_word c })
        without
carried_room {S = S} width (fragment name ∷ source) k narrow room =
    let P = λ (l : Letter (Rider S)). IsTrue (has_room width false l) in
    by_word (λ next here. carried_room width source next narrow here)
    (All-append P k.letters (ride name ∷ []) room (rides_room S width (name ∷ []))) room k.in_word
  where
    by_word : ((next : Carried S) → AllHaveRoom width false next.letters
        → AllHaveRoom width false (fold (carry width) next source).letters)
        → AllHaveRoom width false (k.letters ++ ride name ∷ []) → AllHaveRoom width false k.letters
        → (b : Bool) → AllHaveRoom width false (fold (carry width) (if b
        then record k { letters = k.letters ++ ride name ∷ [] } else record k { waiting = k.waiting ++ name ∷ [] })
        source).letters
    by_word rest ridden same true = rest (record k { letters = k.letters ++ ride name ∷ [] }) ridden
    by_word rest ridden same false = rest (record k { waiting = k.waiting ++ name ∷ [] }) same

-- ---- what is shown is no wider

shown_columns : {S : Type 0} (items : List (Item (Rider S))) → line_columns (map shown_item items) ≤ line_columns items
shown_columns [] = omega arith
shown_columns (character c (plain tag) ∷ items) =
    omega (
      arith,
      shown_columns items,
      line_columns-cons (character c (plain tag)) items,
      line_columns-cons (character c tag) (map shown_item items),
    )
shown_columns (character c (note name) ∷ items) =
    omega (
      arith,
      shown_columns items,
      line_columns-cons (character c (note name)) items,
      line_columns-cons (marker name) (map shown_item items),
    )
shown_columns (marker name ∷ items) =
    omega (
      arith,
      shown_columns items,
      line_columns-cons (marker name) items,
      line_columns-cons (marker name) (map shown_item items),
    )

shown_fit : {S : Type 0} (width : ℕ) (lines : List (List (Item (Rider S))))
    → All (λ items. line_columns items ≤ width) lines
    → All (λ items. line_columns items ≤ width) (map (map shown_item) lines)
shown_fit width [] fit = All-nil (λ items. line_columns items ≤ width)
shown_fit width (items ∷ lines) fit =
    let here = All-head (λ i. line_columns i ≤ width) items lines fit in
    All-cons (λ i. line_columns i ≤ width) (map shown_item items) (map (map shown_item) lines)
    (omega (arith, here, shown_columns items))
    (shown_fit width lines (All-tail (λ i. line_columns i ≤ width) items lines fit))

-- ---- markers in front take no columns

settled_fit : {S : Type 0} (width : ℕ) (front : List (Item S)) (lines : List (List (Item S))) → line_columns front ≡ 0
    → All (λ items. line_columns items ≤ width) lines
    → All (λ items. line_columns items ≤ width) (settled_lines front lines)
settled_fit width front [] none fit = All-nil (λ items. line_columns items ≤ width)
settled_fit {S = S} width front (line ∷ lines) none fit =
    by_text (settled_fit width [] lines refl (All-tail (λ i. line_columns i ≤ width) line lines fit))
    (λ free. settled_fit width (front ++ line) lines free (All-tail (λ i. line_columns i ≤ width) line lines fit))
    (has_text line) refl
  where
    by_text : All (λ (items : List (Item S)). line_columns items ≤ width) (settled_lines [] lines)
        → (line_columns (front ++ line) ≡ 0
        → All (λ (items : List (Item S)). line_columns items ≤ width) (settled_lines (front ++ line) lines))
        → (b : Bool) → has_text line ≡ b → All (λ (items : List (Item S)). line_columns items ≤ width)
        (if b then (front ++ line) ∷ settled_lines [] lines else settled_lines (front ++ line) lines)
    by_text rest free true is =
        let here = All-head (λ (i : List (Item S)). line_columns i ≤ width) line lines fit in
        All-cons (λ (i : List (Item S)). line_columns i ≤ width) (front ++ line) (settled_lines [] lines)
        (omega (arith, here, none, line_columns-append front line)) rest
    by_text rest free false is =
        let bare = no_columns line is in
        free (omega (arith, bare, none, line_columns-append front line))

pub marked_lines_fit : {S : Type 0} (width : ℕ) (source : List (Source S)) → has_wide_text width source ≡ false
    → All (λ items. line_columns items ≤ width) (normal_lines width source)
unfolding normal_lines
marked_lines_fit {S = S} width source narrow =
    let letters = (carried width source).letters in
    let room = carried_room width source nothing_carried narrow
    (All-nil (λ (l : Letter (Rider S)). IsTrue (has_room width false l))) in
    let fit = subst (All (λ (items : List (Item (Rider S))). line_columns items ≤ width))
    (ap (map marks_items) (read_is_units width letters))
    (lines_within width letters _ (lines_are width false letters room)) in
    settled_fit width [] (shown_lines width letters) refl
    (shown_fit width (map marks_items (all_lines (add_units width (units letters)))) fit)
