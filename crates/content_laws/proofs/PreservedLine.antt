-- Parts of a preserved source line that go on one line are laid on it.
use Rattle.std.proofs.Common.{◌≡◌, ◌+◌, ◌-◌, ◌≤◌, ◌==◌, ◌&&◌, ◌||◌, ◌%◌, [], ◌∷◌, ◌++◌, ◌∙◌, Bool, List, ap, append-nil}
use Rattle.std.proofs.Common.{append_assoc, arith, false, fold, length, nat_le, nat_lt, not, refl, replicate, sym}
use Rattle.std.proofs.Common.{true, ℕ}
use Rattle.std.specs.Prelude.{if◌then◌else◌}
use Rattle.std.proofs.lemmas.Bool.{cond-true}
use Rattle.std.proofs.lemmas.Bool.Decides.{nat_tests}
use Rattle.text_lines.specs.Columns.{width_of}
use Rattle.text_lines.specs.Tagged.{Item, character, line_columns, marker}
use Rattle.text_pieces.specs.Sources.{Source, fragment, letter}
use Rattle.text_pieces.specs.Items.{has_text, item_columns}
use Rattle.text_pieces.proofs.ItemColumns.{line_columns-append, line_columns-cons}
use Rattle.text_preserved.specs.LawWords.{source_columns}
use Rattle.text_preserved.specs.Preserved.{Laying, Part, Tagging, after_stop, blank, body, broken_anywhere}
use Rattle.text_preserved.specs.Preserved.{broken_at_white, fresh, lay_body, lay_items, lay_part, lay_stop, line_taken}
use Rattle.text_preserved.specs.Preserved.{line_text, nothing_laid, put_all, put_space, space, stop, tag_one}
use Rattle.text_preserved.specs.Preserved.{tagged_body, tabbed, taken, to_stop, with_room, without_spaces, written}
use Rattle.text_preserved.proofs.ColumnLemmas.{AreSpaces, AreSpaces-append, AreSpaces-replicate, item_columns-space}
use Rattle.text_preserved.proofs.ColumnLemmas.{le_is_true, line_columns-replicate, lt_is_false}
use Rattle.text_preserved.proofs.LayingPlain.{shown}

-- one line at hand
abbrev pub at_hand : {S : Type 0} → List (Item S) → List (Item S) → List (Item S) → Laying S
at_hand line tail spaces = record { done = []; line = line; tail = tail; spaces = spaces; goes_on = false }

abbrev written_spaces : {S : Type 0} → Laying S → ℕ
written_spaces r = line_columns r.line + line_columns (r.tail ++ r.spaces)

-- a part on the line at hand, whatever the width
abbrev pub go_on : {S : Type 0} → Laying S → Part S → Laying S
go_on r (blank n main further) = at_hand r.line r.tail (r.spaces ++ replicate n (space main))
go_on r (stop main further) =
    at_hand r.line ((r.tail ++ r.spaces) ++ replicate (8 - written_spaces r % 8) (space main)) []
go_on r (body word) = at_hand ((r.line ++ r.tail) ++ (r.spaces ++ shown word)) [] []

-- each part goes on the line at hand
abbrev pub Fit : {S : Type 0} → ℕ → Laying S → List (Part S) → Type 0
Fit w r [] = Unit {0}
Fit w r (blank n main further ∷ ps) = Fit w (go_on r (blank n main further)) ps
Fit w r (stop main further ∷ ps) = (taken (go_on r (stop main further)) ≤ w) × Fit w (go_on r (stop main further)) ps
Fit w r (body word ∷ ps) = (taken (go_on r (body word)) ≤ w) × Fit w (go_on r (body word)) ps

-- ---- the columns that a part takes

shown-columns : {S : Type 0} (word : List (Source S)) → line_columns (shown word) ≡ source_columns word
shown-columns [] = refl
shown-columns (letter c main further ∷ word) = let rest = shown-columns word in
    omega (arith, line_columns-cons (character c main) (shown word))
shown-columns {S = S} (fragment name ∷ word) = let rest = shown-columns word in
    let m : Item S = marker name in omega (arith, line_columns-cons m (shown word))

pub blank_columns : {S : Type 0} (r : Laying S) (n : ℕ) (main further : S)
    → taken (go_on r (blank n main further)) ≡ taken r + n
blank_columns r n main further =
    omega (arith, line_columns-append r.spaces (replicate n (space main)), line_columns-replicate n main)

pub stop_columns : {S : Type 0} (r : Laying S) (main further : S)
    → taken (go_on r (stop main further)) ≡ taken r + (8 - taken r % 8)
stop_columns r main further =
    let n : ℕ = 8 - written_spaces r % 8 in
    omega (
      arith,
      line_columns-append (r.tail ++ r.spaces) (replicate n (space main)),
      line_columns-append r.tail r.spaces,
      line_columns-replicate n main,
    )

pub body_columns : {S : Type 0} (r : Laying S) (word : List (Source S))
    → taken (go_on r (body word)) ≡ taken r + source_columns word
body_columns r word = omega (
  arith,
  line_columns-append (r.line ++ r.tail) (r.spaces ++ shown word),
  line_columns-append r.line r.tail,
  line_columns-append r.spaces (shown word),
  shown-columns word,
)

-- ---- room

room_stays : {S : Type 0} (w n : ℕ) (line tail spaces : List (Item S)) → line_columns line + line_columns tail + n ≤ w
    → with_room w n (at_hand line tail spaces) ≡ at_hand line tail spaces
room_stays w n line tail spaces fits =
    cond-true (nat_le (line_taken (at_hand line tail spaces) + n) w) (at_hand line tail spaces)
    (fresh (at_hand line tail spaces)) (le_is_true (line_taken (at_hand line tail spaces) + n) w fits)

-- ---- a tab

one_columns : {S : Type 0} (x : Item S) → line_columns (x ∷ []) ≡ item_columns x
one_columns x = omega (arith, line_columns-cons x [])

space_put : {S : Type 0} (w : ℕ) (line tail : List (Item S)) (x : Item S)
    → line_columns line + line_columns tail + 1 ≤ w
    → put_space w (at_hand line tail []) x ≡ at_hand line (tail ++ x ∷ []) []
space_put {S} w line tail x fits =
    ap (λ (room : Laying S). (let r : Laying S = record room { tail = room.tail ++ x ∷ [] } in r))
    (room_stays w 1 line tail [] fits)

spaces_put : {S : Type 0} (w : ℕ) (line tail xs : List (Item S)) → AreSpaces xs
    → line_columns line + line_columns tail + line_columns xs ≤ w
    → fold (put_space w) (at_hand line tail []) xs ≡ at_hand line (tail ++ xs) []
spaces_put w line tail [] are fits = ap (λ xs. at_hand line xs []) (sym (append-nil tail))
spaces_put w line tail (x ∷ xs) are fits =
    let here : line_columns line + line_columns tail + 1 + line_columns xs ≤ w =
    omega (arith, line_columns-cons x xs, item_columns-space x are.0) in
    ap (λ r. fold (put_space w) r xs) (space_put w line tail x (omega arith))
    ∙ spaces_put w line (tail ++ x ∷ []) xs are.1
    (omega (arith, line_columns-append tail (x ∷ []), one_columns x, item_columns-space x are.0))
    ∙ ap (λ ys. at_hand line ys []) (append_assoc tail (x ∷ []) xs)

to_stop_is : (w t : ℕ) → t + (8 - t % 8) ≤ w → to_stop w t ≡ 8 - t % 8
to_stop_is w t fits = omega arith

at_stop : (t n : ℕ) → n ≡ t + (8 - t % 8) → n % 8 ≡ 0
at_stop t n is = omega arith

is_zero : (n : ℕ) → n ≡ 0 → (n == 0) ≡ true
is_zero n e = grind (arith, nat_tests)

or_true : (a b : Bool) → b ≡ true → (a || b) ≡ true
or_true true b e = refl
or_true false b e = e

after_stop_stays : {S : Type 0} (w : ℕ) (r : Laying S) → line_taken r % 8 ≡ 0 → after_stop w r ≡ r
after_stop_stays w r at =
    cond-true (nat_lt (line_taken r) w || (line_taken r % 8 == 0)) r (fresh r)
    (or_true (nat_lt (line_taken r) w) (line_taken r % 8 == 0) (is_zero (line_taken r % 8) at))

tab_put : {S : Type 0} (w : ℕ) (tag : S) (line tail : List (Item S))
    → (let t = line_columns line + line_columns tail in t + (8 - t % 8) ≤ w)
    → tabbed w tag (at_hand line tail [])
    ≡ at_hand line (tail ++ replicate (8 - (line_columns line + line_columns tail) % 8) (space tag)) []
tab_put w tag line tail fits =
    let t = line_columns line + line_columns tail in
    let more = replicate (8 - t % 8) (space tag) in
    ap (λ n. after_stop w (at_hand line (tail ++ replicate n (space tag)) [])) (to_stop_is w t fits)
    ∙ after_stop_stays w (at_hand line (tail ++ more) [])
    (at_stop t (line_columns line + line_columns (tail ++ more))
    (omega (arith, line_columns-append tail more, line_columns-replicate (8 - t % 8) tag)))

stop_put : {S : Type 0} (w : ℕ) (main further : S) (line tail spaces : List (Item S)) → AreSpaces spaces
    → taken (go_on (at_hand line tail spaces) (stop main further)) ≤ w
    → lay_stop w main further (at_hand line tail spaces) ≡ go_on (at_hand line tail spaces) (stop main further)
stop_put {S} w main further line tail spaces are fits =
    let t : ℕ = line_columns line + line_columns (tail ++ spaces) in
    let room : t + (8 - t % 8) ≤ w =
    omega (arith, stop_columns (at_hand line tail spaces) main further, line_columns-append tail spaces, fits) in
    ap (λ (r : Laying S). tabbed w main (with_room w 1 r))
    (spaces_put w line tail spaces are (omega (arith, line_columns-append tail spaces, room)))
    ∙ ap (tabbed w main) (room_stays w 1 line (tail ++ spaces) [] (omega (arith, room)))
    ∙ tab_put w main line (tail ++ spaces) room

-- ---- a body

and_false : (a b : Bool) → b ≡ false → (a && b) ≡ false
and_false true b e = e
and_false false b e = refl

-- a body that fits has its first tags
first_tags : {S : Type 0} (w : ℕ) (wraps : Bool) (before : ℕ) (items : List (Item S)) (word : List (Source S))
    → before + line_columns items + source_columns word ≤ w
    → fold (tag_one w wraps before) (record { items = items; goes_on = false }) word
    ≡ record { items = items ++ shown word; goes_on = false }
first_tags {S = S} w wraps before items [] fits =
    ap (λ xs. (let t : Tagging S = record { items = xs; goes_on = false } in t)) (sym (append-nil items))
first_tags {S = S} w wraps before items (letter c main further ∷ rest) fits =
    ap (λ b. fold (tag_one w wraps before) (let t : Tagging S =
    record { items = items ++ character c (if b then further else main) ∷ []; goes_on = b } in t) rest)
    (and_false (not wraps) (nat_lt w (before + line_columns items + width_of c))
    (lt_is_false w (before + line_columns items + width_of c) (omega arith)))
    ∙ first_tags w wraps before (items ++ character c main ∷ []) rest
    (omega (arith, line_columns-append items (character c main ∷ []), line_columns-cons (character c main) []))
    ∙ ap (λ xs. (let t : Tagging S = record { items = xs; goes_on = false } in t))
    (append_assoc items (character c main ∷ []) (shown rest))
first_tags {S = S} w wraps before items (fragment name ∷ rest) fits =
    let m : Item S = marker name in
    first_tags w wraps before (items ++ m ∷ []) rest
    (omega (arith, line_columns-append items (m ∷ []), line_columns-cons m []))
    ∙ ap (λ xs. (let t : Tagging S = record { items = xs; goes_on = false } in t))
    (append_assoc items (m ∷ []) (shown rest))

items_put : {S : Type 0} (w : ℕ) (wraps : Bool) (line tail spaces items : List (Item S))
    → line_columns line + line_columns tail + line_columns spaces + line_columns items ≤ w
    → lay_items w wraps items (at_hand line tail spaces) ≡ at_hand ((line ++ tail) ++ (spaces ++ items)) [] []
items_put w wraps line tail spaces items fits =
    cond-true (nat_le (taken (at_hand line tail spaces) + line_columns items) w)
    (written (without_spaces (at_hand line tail spaces)) (spaces ++ items))
    (put_all w (if wraps then broken_at_white (at_hand line tail spaces)
    else broken_anywhere w (at_hand line tail spaces)) items)
    (le_is_true (taken (at_hand line tail spaces) + line_columns items) w fits)

body_put : {S : Type 0} (w : ℕ) (wraps : Bool) (line tail spaces : List (Item S)) (word : List (Source S))
    → taken (go_on (at_hand line tail spaces) (body word)) ≤ w
    → lay_body w wraps word (at_hand line tail spaces) ≡ go_on (at_hand line tail spaces) (body word)
body_put {S = S} w wraps line tail spaces word fits =
    let r : Laying S = at_hand line tail spaces in
    let all : line_columns line + line_columns tail + line_columns spaces + source_columns word ≤ w =
    omega (arith, body_columns (at_hand line tail spaces) word, fits) in
    ap (λ (room : Laying S). (let t : Tagging S = tagged_body w wraps room word in
    let s : Laying S = record (lay_items w wraps t.items room) { goes_on = t.goes_on } in s))
    (room_stays w 0 line tail spaces (omega (arith, all)))
    ∙ ap (λ (t : Tagging S). (let s : Laying S = record (lay_items w wraps t.items (at_hand line tail spaces))
    { goes_on = t.goes_on } in s))
    (first_tags w wraps (taken (at_hand line tail spaces)) [] word (omega (arith, all)))
    ∙ ap (λ (s : Laying S). (let u : Laying S = record s { goes_on = false } in u))
    (items_put w wraps line tail spaces (shown word) (omega (arith, all, shown-columns word)))

-- ---- parts

pub parts_put : {S : Type 0} (w : ℕ) (wraps : Bool) (line tail spaces : List (Item S)) (ps : List (Part S))
    → AreSpaces spaces → Fit w (at_hand line tail spaces) ps
    → fold (lay_part w wraps) (at_hand line tail spaces) ps ≡ fold go_on (at_hand line tail spaces) ps
parts_put w wraps line tail spaces [] are fit = refl
parts_put w wraps line tail spaces (blank n main further ∷ ps) are fit =
    parts_put w wraps line tail (spaces ++ replicate n (space main)) ps
    (AreSpaces-append spaces (replicate n (space main)) are (AreSpaces-replicate n main)) fit
parts_put w wraps line tail spaces (stop main further ∷ ps) are fit =
    ap (λ r. fold (lay_part w wraps) r ps) (stop_put w main further line tail spaces are fit.0)
    ∙ parts_put w wraps line ((tail ++ spaces) ++ replicate (8 - written_spaces (at_hand line tail spaces) % 8)
    (space main)) [] ps tt fit.1
parts_put w wraps line tail spaces (body word ∷ ps) are fit =
    ap (λ r. fold (lay_part w wraps) r ps) (body_put w wraps line tail spaces word fit.0)
    ∙ parts_put w wraps ((line ++ tail) ++ (spaces ++ shown word)) [] [] ps tt fit.1

-- ---- the line

nothing_done : {S : Type 0} (r : Laying S) (ps : List (Part S)) → r.done ≡ [] → (fold go_on r ps).done ≡ []
nothing_done r [] none = none
nothing_done r (blank n main further ∷ ps) none = nothing_done (go_on r (blank n main further)) ps refl
nothing_done r (stop main further ∷ ps) none = nothing_done (go_on r (stop main further)) ps refl
nothing_done r (body word ∷ ps) none = nothing_done (go_on r (body word)) ps refl

-- the line of the parts, if there is text on it
abbrev pub part_line : {S : Type 0} → List (Part S) → List (List (Item S))
part_line ps = (fresh (fold go_on nothing_laid ps)).done

fresh_done : {S : Type 0} (r : Laying S) (b : Bool) → r.done ≡ []
    → length ((if b then (let s : Laying S = record r { done = r.done ++ line_text r ∷ []; line = []; tail = [] } in s)
    else r).done) ≤ 1
fresh_done r true none = omega (arith, ap (λ ls. length (ls ++ line_text r ∷ [])) none)
fresh_done r false none = omega (arith, ap length none)

pub part_line_one : {S : Type 0} (ps : List (Part S)) → length (part_line ps) ≤ 1
part_line_one {S} ps =
    let r : Laying S = fold go_on nothing_laid ps in
    fresh_done r (has_text (line_text r)) (nothing_done nothing_laid ps refl)
