-- Words, read character by character.
use Rattle.std.proofs.Common.{◌≡◌, ◌+◌, ◌==◌, ◌&&◌, ◌||◌, [], ◌∷◌, ◌++◌, ◌∙◌, Bool, List, None, Option, Some, ap}
use Rattle.std.proofs.Common.{append-nil, append_assoc, arith, false, filter, is_some, nat_lt, refl, suc, sym}
use Rattle.std.proofs.Common.{true, zero, ℕ}
use Rattle.std.specs.Prelude.{if◌then◌else◌, unwrap_or}
use Rattle.std.proofs.lemmas.Bool.Decides.{nat_tests}
use Rattle.text_lines.specs.Columns.{columns_of, width_of}
use Rattle.text_normal.specs.Units.{Letter, Piece, first_of, has_columns, has_letters, joined, joining, letters_columns}
use Rattle.text_normal.specs.Units.{lettered, piece, pieces_after, space_of, units, with_front}
use Rattle.text_normal.proofs.UnitsReading.{has_columns-after_none, joining-with_columns, pieces_after-break}
use Rattle.text_normal.proofs.UnitsReading.{pieces_after-filled, pieces_after-letter}
use Rattle.text_pieces.specs.Sources.{is_break_point, is_filled, is_white_space}
use Rattle.content_widths.specs.Flows.{capped}
use Rattle.content_widths.specs.Reading.{AreWords, columns_between, columns_from, columns_from_word, gap_before}
use Rattle.content_widths.specs.Reading.{place_after_break, place_after_mark, rest_at, words_after_letter}
use Rattle.content_widths.specs.Reading.{words_columns}
use Rattle.content_widths.specs.Texts.{further_columns, units_columns}
use Rattle.content_widths.specs.declared.words.Place.{Place}
use Rattle.content_widths.specs.declared.words.Place.TheVariants.{Start, Word, Between}
use Rattle.content_widths.specs.declared.words.Words.{Words}

-- ---- white space before the first piece

abbrev spaced : {S : Type 0} → Option S → List (Piece S) → List (Piece S)
spaced s [] = []
spaced s (p ∷ ps) = piece (first_of s p.space) p.letters ∷ ps

no_other : {S : Type 0} (s : Option S) → s ≡ first_of s None
no_other None = refl
no_other (Some t) = refl

one_of : {S : Type 0} (s t u : Option S) → first_of (first_of s t) u ≡ first_of s (first_of t u)
one_of None t u = refl
one_of (Some tag) t u = refl

front_spaced : {S : Type 0} (s : Option S) (l : Letter S) (ps : List (Piece S))
    → with_front l (spaced s ps) ≡ spaced s (with_front l ps)
front_spaced s l [] = refl
front_spaced s l (p ∷ ps) = refl

pieces_spaced : {S : Type 0} (s : Option S) (ls : List (Letter S)) → pieces_after s ls
    ≡ spaced s (pieces_after None ls)
pieces_spaced s [] = ap (λ t. piece t [] ∷ []) (no_other s)
pieces_spaced {S} s (l ∷ ls) = by_break (is_break_point l.code) (pieces_spaced s ls)
  where
    by_break : (b : Bool) → pieces_after s ls ≡ spaced s (pieces_after None ls)
        → (if b then piece s [] ∷ pieces_after (space_of l) ls else with_front l (pieces_after s ls))
        ≡ spaced s (if b then piece None [] ∷ pieces_after (space_of l) ls else with_front l (pieces_after None ls))
    by_break true e = ap (λ t. piece t [] ∷ pieces_after (space_of l) ls) (no_other s)
    by_break false e = ap (with_front l) e ∙ front_spaced s l (pieces_after None ls)

joining_spaced : {S : Type 0} (s : Option S) (p : Piece S) (ps : List (Piece S))
    → joining (piece (first_of s p.space) p.letters) ps ≡ spaced s (joining p ps)
joining_spaced s p [] = refl
joining_spaced {S} s p (q ∷ qs) = by_columns (has_columns p.letters)
  where
    by_columns : (b : Bool) → (if b then piece (first_of s p.space) p.letters ∷ q ∷ qs
        else piece (first_of (first_of s p.space) q.space) (p.letters ++ q.letters) ∷ qs)
        ≡ spaced s (if b then p ∷ q ∷ qs else piece (first_of p.space q.space) (p.letters ++ q.letters) ∷ qs)
    by_columns true = refl
    by_columns false = ap (λ t. piece t (p.letters ++ q.letters) ∷ qs) (one_of s p.space q.space)

joined_spaced : {S : Type 0} (s : Option S) (ps : List (Piece S)) → joined (spaced s ps) ≡ spaced s (joined ps)
joined_spaced s [] = refl
joined_spaced s (p ∷ ps) = joining_spaced s p (joined ps)

-- ---- there is always a piece, and none follows one without columns

joined_filled : {S : Type 0} (p : Piece S) (ps : List (Piece S)) → is_filled (joining p ps) ≡ true
joined_filled p [] = refl
joined_filled {S} p (q ∷ qs) = by_columns (has_columns p.letters)
  where
    by_columns : (b : Bool) → is_filled (if b then p ∷ q ∷ qs
        else piece (first_of p.space q.space) (p.letters ++ q.letters) ∷ qs) ≡ true
    by_columns true = refl
    by_columns false = refl

some_joined : {S : Type 0} (ps : List (Piece S)) → is_filled ps ≡ true → is_filled (joined ps) ≡ true
some_joined [] h = h
some_joined (p ∷ ps) h = joined_filled p (joined ps)

abbrev IsLast : {S : Type 0} → List (Piece S) → Type 0
IsLast [] = Unit {0}
IsLast (q ∷ qs) = has_columns q.letters ≡ false → qs ≡ []

joining_last : {S : Type 0} (p : Piece S) (ps : List (Piece S)) → IsLast ps → IsLast (joining p ps)
joining_last p [] h = λ none. refl
joining_last {S} p (q ∷ qs) h = by_columns (has_columns p.letters) refl
  where
    by_columns : (b : Bool) → has_columns p.letters ≡ b → IsLast (if b then p ∷ q ∷ qs
        else piece (first_of p.space q.space) (p.letters ++ q.letters) ∷ qs)
    by_columns true has = λ none. cc
    by_columns false has = λ none. h (sym (has_columns-after_none p.letters q.letters has) ∙ none)

joined_last : {S : Type 0} (ps : List (Piece S)) → IsLast (joined ps)
joined_last [] = tt
joined_last (p ∷ ps) = joining_last p (joined ps) (joined_last ps)

-- ---- a break point

nothing_joins : {S : Type 0} (ps : List (Piece S)) → is_filled ps ≡ true → joining (piece None []) ps ≡ ps
nothing_joins [] h = cc
nothing_joins (p ∷ ps) h = refl

-- where a break point stands in front
joined_after_break : {S : Type 0} (l : Letter S) (ls : List (Letter S)) → is_break_point l.code ≡ true
    → joined (pieces_after None (l ∷ ls)) ≡ spaced (space_of l) (joined (pieces_after None ls))
joined_after_break l ls e =
    let ps = pieces_after (space_of l) ls in
    ap joined (pieces_after-break None l ls e)
    ∙ nothing_joins (joined ps) (some_joined ps (pieces_after-filled (space_of l) ls))
    ∙ ap joined (pieces_spaced (space_of l) ls) ∙ joined_spaced (space_of l) (pieces_after None ls)

first_gap : {S : Type 0} (s t : Option S) (ls : List (Letter S)) (ps : List (Piece S))
    → units_columns (filter has_letters (piece s ls ∷ ps)) ≡ units_columns (filter has_letters (piece t ls ∷ ps))
first_gap s t [] ps = refl
first_gap s t (l ∷ ls) ps = refl

start_spaced : {S : Type 0} (s : Option S) (ps : List (Piece S))
    → units_columns (filter has_letters (spaced s ps)) ≡ units_columns (filter has_letters ps)
start_spaced s [] = refl
start_spaced s (p ∷ ps) = first_gap (first_of s p.space) p.space p.letters ps

abbrev gap_if : Bool → ℕ
gap_if b = if b then 1 else 0

either : {S : Type 0} (s t : Option S) → is_some (first_of s t) ≡ (is_some s || is_some t)
either None t = refl
either (Some tag) t = refl

no_gap : (b : Bool) → gap_if (b && false) ≡ 0
no_gap true = refl
no_gap false = refl

gap_there : (b : Bool) → gap_if b ≡ gap_if (b && true)
gap_there true = refl
gap_there false = refl

nothing_more : (n a : ℕ) → a ≡ 0 → n ≡ a + 0 + n
nothing_more n a e = omega arith

further_spaced : {S : Type 0} (s t : Option S) (ls : List (Letter S)) (ps : List (Piece S))
    → further_columns (filter has_letters (piece (first_of s t) ls ∷ ps))
    ≡ gap_if ((is_some s || is_some t) && (false || is_filled ls)) + letters_columns ls + further_columns
    (filter has_letters ps)
further_spaced s t [] ps =
    nothing_more (further_columns (filter has_letters ps)) _ (no_gap (is_some s || is_some t))
further_spaced s t (l ∷ ls) ps =
    ap (λ n. n + letters_columns (l ∷ ls) + further_columns (filter has_letters ps))
    (ap gap_if (either s t) ∙ gap_there (is_some s || is_some t))

word_spaced : {S : Type 0} (s : Option S) (ps : List (Piece S))
    → further_columns (filter has_letters (spaced s ps)) ≡ columns_between (is_some s) false ps
word_spaced s [] = refl
word_spaced s (p ∷ ps) = further_spaced s p.space p.letters ps

or_assoc : (a b c : Bool) → (a || (b || c)) ≡ ((a || b) || c)
or_assoc true b c = refl
or_assoc false b c = refl

between_spaced : {S : Type 0} (space letters : Bool) (s : Option S) (ps : List (Piece S))
    → columns_between space letters (spaced s ps) ≡ columns_between (space || is_some s) letters ps
between_spaced space letters s [] = refl
between_spaced space letters s (p ∷ ps) =
    ap (λ b. gap_if (b && (letters || is_filled p.letters)) + letters_columns p.letters
    + further_columns (filter has_letters ps))
    (ap (λ b. space || b) (either s p.space) ∙ or_assoc space (is_some s) (is_some p.space))

abbrev letters : List ℕ → List (Letter (Unit {0}))
letters ds = lettered ds (tt {0})

abbrev letter : ℕ → Letter (Unit {0})
letter c = record { code = c; tag = tt {0} }

is_space : (b : Bool) → is_some (if b then Some (tt {0}) else None) ≡ b
is_space true = refl
is_space false = refl

none_plus : (a b c : ℕ) → a ≡ 0 → b ≡ c → a + b ≡ c
none_plus a b c e h = omega arith

from_after_break : (p : Place) (c : ℕ) (ds : List ℕ) → is_break_point c ≡ true
    → columns_from p (c ∷ ds) ≡ columns_from (place_after_break p (is_white_space c)) ds
from_after_break Start c ds e =
    ap (λ ps. units_columns (filter has_letters ps)) (joined_after_break (letter c) (letters ds) e)
    ∙ start_spaced (space_of (letter c)) (joined (pieces_after None (letters ds)))
from_after_break Word c ds e =
    let s = space_of (letter c) in
    ap columns_from_word (pieces_after-break None (letter c) (letters ds) e)
    ∙ none_plus 0 _ _ refl
    (ap (λ ps. further_columns (filter has_letters ps))
    (ap joined (pieces_spaced s (letters ds)) ∙ joined_spaced s (pieces_after None (letters ds)))
    ∙ word_spaced s (joined (pieces_after None (letters ds)))
    ∙ ap (λ b. columns_between b false (joined (pieces_after None (letters ds)))) (is_space (is_white_space c)))
from_after_break (Between space some) c ds e =
    let s = space_of (letter c) in
    ap (columns_between space some) (joined_after_break (letter c) (letters ds) e)
    ∙ between_spaced space some s (joined (pieces_after None (letters ds)))
    ∙ ap (λ b. columns_between (space || b) some (joined (pieces_after None (letters ds))))
    (is_space (is_white_space c))

-- ---- a letter

abbrev fronted : {S : Type 0} → Letter S → List (Piece S) → List (Piece S)
fronted l [] = []
fronted l (p ∷ ps) = piece p.space (l ∷ p.letters) ∷ ps

with_front_wide : {S : Type 0} (l : Letter S) (ps : List (Piece S)) → is_some (columns_of l.code) ≡ true
    → with_front l ps ≡ fronted l ps
with_front_wide l [] e = refl
with_front_wide l (p ∷ ps) e = ap (λ b. piece p.space (if b then l ∷ p.letters else p.letters) ∷ ps) e

with_front_none : {S : Type 0} (l : Letter S) (ps : List (Piece S)) → is_some (columns_of l.code) ≡ false
    → with_front l ps ≡ ps
with_front_none l [] e = refl
with_front_none l (p ∷ ps) e = ap (λ b. piece p.space (if b then l ∷ p.letters else p.letters) ∷ ps) e

pieces_with : {S : Type 0} (l : Letter S) (ls : List (Letter S)) → is_break_point l.code ≡ false
    → is_some (columns_of l.code) ≡ true → pieces_after None (l ∷ ls) ≡ fronted l (pieces_after None ls)
pieces_with l ls e wide = pieces_after-letter None l ls e ∙ with_front_wide l (pieces_after None ls) wide

pieces_without : {S : Type 0} (l : Letter S) (ls : List (Letter S)) → is_break_point l.code ≡ false
    → is_some (columns_of l.code) ≡ false → pieces_after None (l ∷ ls) ≡ pieces_after None ls
pieces_without l ls e none = pieces_after-letter None l ls e ∙ with_front_none l (pieces_after None ls) none

-- one that has no width is left out
from_after_none : (p : Place) (c : ℕ) (ds : List ℕ) → is_break_point c ≡ false → is_some (columns_of c) ≡ false
    → columns_from p (c ∷ ds) ≡ columns_from p ds
from_after_none Start c ds e none =
    ap (λ ps. units_columns (filter has_letters (joined ps))) (pieces_without (letter c) (letters ds) e none)
from_after_none Word c ds e none = ap columns_from_word (pieces_without (letter c) (letters ds) e none)
from_after_none (Between space some) c ds e none =
    ap (λ ps. columns_between space some (joined ps)) (pieces_without (letter c) (letters ds) e none)

-- ---- a letter that has no columns, but a width

no_more_columns : {S : Type 0} (l : Letter S) (ls : List (Letter S)) → width_of l.code ≡ 0
    → letters_columns (l ∷ ls) ≡ letters_columns ls
no_more_columns l ls e = omega arith

joining_mark : {S : Type 0} (l : Letter S) (p : Piece S) (ps : List (Piece S)) → width_of l.code ≡ 0
    → joining (piece p.space (l ∷ p.letters)) ps ≡ fronted l (joining p ps)
joining_mark l p [] e = refl
joining_mark {S} l p (q ∷ qs) e =
    ap (λ n. if nat_lt 0 n then piece p.space (l ∷ p.letters) ∷ q ∷ qs
    else piece (first_of p.space q.space) (l ∷ (p.letters ++ q.letters)) ∷ qs) (no_more_columns l p.letters e)
    ∙ by_columns (has_columns p.letters)
  where
    by_columns : (b : Bool) → (if b then piece p.space (l ∷ p.letters) ∷ q ∷ qs
        else piece (first_of p.space q.space) (l ∷ (p.letters ++ q.letters)) ∷ qs)
        ≡ fronted l (if b then p ∷ q ∷ qs else piece (first_of p.space q.space) (p.letters ++ q.letters) ∷ qs)
    by_columns true = refl
    by_columns false = refl

joined_mark : {S : Type 0} (l : Letter S) (ps : List (Piece S)) → width_of l.code ≡ 0
    → joined (fronted l ps) ≡ fronted l (joined ps)
joined_mark l [] e = refl
joined_mark l (p ∷ ps) e = joining_mark l p (joined ps) e

start_mark_at : {S : Type 0} (l : Letter S) (s : Option S) (ls : List (Letter S)) (ps : List (Piece S))
    → width_of l.code ≡ 0 → (has_columns ls ≡ false → ps ≡ [])
    → units_columns (filter has_letters (piece s (l ∷ ls) ∷ ps)) ≡ units_columns (filter has_letters (piece s ls ∷ ps))
start_mark_at l s [] ps e last =
    let none : letters_columns (l ∷ []) ≡ 0 = no_more_columns l [] e in
    ap (λ qs. letters_columns (l ∷ []) + further_columns (filter has_letters qs)) (last refl)
    ∙ none_plus (letters_columns (l ∷ [])) 0 0 none refl
    ∙ ap (λ qs. units_columns (filter has_letters qs)) (sym (last refl))
start_mark_at l s (x ∷ xs) ps e last =
    ap (λ n. n + further_columns (filter has_letters ps)) (no_more_columns l (x ∷ xs) e)

start_mark : {S : Type 0} (l : Letter S) (ps : List (Piece S)) → width_of l.code ≡ 0 → IsLast ps
    → units_columns (filter has_letters (fronted l ps)) ≡ units_columns (filter has_letters ps)
start_mark l [] e last = refl
start_mark l (p ∷ ps) e last = start_mark_at l p.space p.letters ps e last

word_mark : {S : Type 0} (l : Letter S) (ps : List (Piece S)) → width_of l.code ≡ 0
    → columns_from_word (fronted l ps) ≡ columns_from_word ps
word_mark l [] e = refl
word_mark l (p ∷ ps) e = ap (λ n. n + further_columns (filter has_letters (joined ps))) (no_more_columns l p.letters e)

or_true : (b : Bool) → (b || true) ≡ true
or_true true = refl
or_true false = refl

between_mark : {S : Type 0} (space some : Bool) (l : Letter S) (ps : List (Piece S)) → width_of l.code ≡ 0
    → columns_between space some (fronted l ps) ≡ columns_between space true ps
between_mark space some l [] e = refl
between_mark space some l (p ∷ ps) e =
    ap (λ b. gap_if ((space || is_some p.space) && b) + letters_columns (l ∷ p.letters)
    + further_columns (filter has_letters ps)) (or_true some)
    ∙ ap (λ n. gap_if ((space || is_some p.space) && true) + n + further_columns (filter has_letters ps))
    (no_more_columns l p.letters e)

from_after_mark : (p : Place) (c : ℕ) (ds : List ℕ) → is_break_point c ≡ false → is_some (columns_of c) ≡ true
    → width_of c ≡ 0 → columns_from p (c ∷ ds) ≡ columns_from (place_after_mark p) ds
from_after_mark Start c ds e wide w =
    let ps = pieces_after None (letters ds) in
    ap (λ qs. units_columns (filter has_letters (joined qs))) (pieces_with (letter c) (letters ds) e wide)
    ∙ ap (λ qs. units_columns (filter has_letters qs)) (joined_mark (letter c) ps w)
    ∙ start_mark (letter c) (joined ps) w (joined_last ps)
from_after_mark Word c ds e wide w =
    ap columns_from_word (pieces_with (letter c) (letters ds) e wide)
    ∙ word_mark (letter c) (pieces_after None (letters ds)) w
from_after_mark (Between space some) c ds e wide w =
    let ps = pieces_after None (letters ds) in
    ap (λ qs. columns_between space some (joined qs)) (pieces_with (letter c) (letters ds) e wide)
    ∙ ap (columns_between space some) (joined_mark (letter c) ps w)
    ∙ between_mark space some (letter c) (joined ps) w

-- ---- a letter that has columns

abbrev BeginsWith : {S : Type 0} → Option S → List (Piece S) → Type 0
BeginsWith s [] = Unit {0}
BeginsWith s (p ∷ ps) = p.space ≡ s

front_begins : {S : Type 0} (s : Option S) (l : Letter S) (ps : List (Piece S)) → BeginsWith s ps
    → BeginsWith s (with_front l ps)
front_begins s l [] h = h
front_begins s l (p ∷ ps) h = h

pieces_begin : {S : Type 0} (s : Option S) (ls : List (Letter S)) → BeginsWith s (pieces_after s ls)
pieces_begin s [] = refl
pieces_begin {S} s (l ∷ ls) = by_break (is_break_point l.code) (pieces_begin s ls)
  where
    by_break : (b : Bool) → BeginsWith s (pieces_after s ls)
        → BeginsWith s (if b then piece s [] ∷ pieces_after (space_of l) ls else with_front l (pieces_after s ls))
    by_break true h = refl
    by_break false h = front_begins s l (pieces_after s ls) h

has_some : {S : Type 0} (n : ℕ) (l : Letter S) (ls : List (Letter S)) → width_of l.code ≡ suc n
    → has_columns (l ∷ ls) ≡ true
has_some n l ls e = grind (arith, nat_tests)

joined_wide : {S : Type 0} (n : ℕ) (l : Letter S) (p : Piece S) (ps : List (Piece S)) → width_of l.code ≡ suc n
    → joined (fronted l (p ∷ ps)) ≡ piece p.space (l ∷ p.letters) ∷ joined ps
joined_wide n l p ps e =
    joining-with_columns (piece p.space (l ∷ p.letters)) (joined ps) (has_some n l p.letters e)

regrouped : (w a b : ℕ) → (w + a) + b ≡ (0 + w) + (a + b)
regrouped w a b = omega arith

start_wide : {S : Type 0} (n : ℕ) (l : Letter S) (ps : List (Piece S)) → is_filled ps ≡ true → width_of l.code ≡ suc n
    → units_columns (filter has_letters (joined (fronted l ps))) ≡ (0 + width_of l.code) + columns_from_word ps
start_wide n l [] some e = cc
start_wide n l (p ∷ ps) some e =
    ap (λ qs. units_columns (filter has_letters qs)) (joined_wide n l p ps e)
    ∙ regrouped (width_of l.code) (letters_columns p.letters) (further_columns (filter has_letters (joined ps)))

word_wide : {S : Type 0} (l : Letter S) (ps : List (Piece S)) → is_filled ps ≡ true
    → columns_from_word (fronted l ps) ≡ (0 + width_of l.code) + columns_from_word ps
word_wide l [] some = cc
word_wide l (p ∷ ps) some =
    regrouped (width_of l.code) (letters_columns p.letters) (further_columns (filter has_letters (joined ps)))

gap_alone : (space other some : Bool) → other ≡ false → gap_if ((space || other) && (some || true)) ≡ gap_if space
gap_alone true other true e = refl
gap_alone true other false e = refl
gap_alone false true some e = cc
gap_alone false false some e = refl

none_there : {S : Type 0} (s : Option S) → s ≡ None → is_some s ≡ false
none_there s e = ap is_some e

with_gap : (g h w a b : ℕ) → g ≡ h → g + (w + a) + b ≡ (h + w) + (a + b)
with_gap g h w a b e = omega arith

between_wide : {S : Type 0} (n : ℕ) (space some : Bool) (l : Letter S) (ps : List (Piece S)) → is_filled ps ≡ true
    → BeginsWith None ps → width_of l.code ≡ suc n
    → columns_between space some (joined (fronted l ps)) ≡ (gap_if space + width_of l.code) + columns_from_word ps
between_wide n space some l [] filled begins e = cc
between_wide n space some l (p ∷ ps) filled begins e =
    ap (columns_between space some) (joined_wide n l p ps e)
    ∙ with_gap _ (gap_if space) (width_of l.code) (letters_columns p.letters)
    (further_columns (filter has_letters (joined ps)))
    (gap_alone space (is_some p.space) some (none_there p.space begins))

from_after_wide : (n : ℕ) (p : Place) (c : ℕ) (ds : List ℕ) → is_break_point c ≡ false
    → is_some (columns_of c) ≡ true → width_of c ≡ suc n
    → columns_from p (c ∷ ds) ≡ (gap_before p + width_of c) + columns_from Word ds
from_after_wide n Start c ds e wide w =
    ap (λ qs. units_columns (filter has_letters (joined qs))) (pieces_with (letter c) (letters ds) e wide)
    ∙ start_wide n (letter c) (pieces_after None (letters ds)) (pieces_after-filled None (letters ds)) w
from_after_wide n Word c ds e wide w =
    ap columns_from_word (pieces_with (letter c) (letters ds) e wide)
    ∙ word_wide (letter c) (pieces_after None (letters ds)) (pieces_after-filled None (letters ds))
from_after_wide n (Between space some) c ds e wide w =
    ap (λ qs. columns_between space some (joined qs)) (pieces_with (letter c) (letters ds) e wide)
    ∙ between_wide n space some (letter c) (pieces_after None (letters ds)) (pieces_after-filled None (letters ds))
    (pieces_begin None (letters ds)) w

-- ---- a character more

whole : (cs ds : List ℕ) (c : ℕ) → capped (units_columns (units (letters ((cs ++ c ∷ []) ++ ds))))
    ≡ capped (units_columns (units (letters (cs ++ c ∷ ds))))
whole cs ds c = ap (λ xs. capped (units_columns (units (letters xs)))) (append_assoc cs (c ∷ []) ds)

pub words_after_break : (w : Words) (cs : List ℕ) (c : ℕ) (space : Bool) (place : Place) → is_break_point c ≡ true
    → space ≡ is_white_space c → place ≡ place_after_break w.place space → AreWords w cs
    → AreWords (record { columns = w.columns; place = place }) (cs ++ c ∷ [])
words_after_break w cs c space place e white is h = record {
  gives = λ ds.
      whole cs ds c ∙ h.gives (c ∷ ds)
      ∙ ap (λ n. capped (w.columns + n))
      (from_after_break w.place c ds e
      ∙ ap (λ q. columns_from q ds) (ap (place_after_break w.place) (sym white) ∙ sym is));
}

pub words_after_none : (w : Words) (cs : List ℕ) (c : ℕ) → is_break_point c ≡ false → columns_of c ≡ None
    → AreWords w cs → AreWords w (cs ++ c ∷ [])
words_after_none w cs c e none h = record {
  gives = λ ds.
      whole cs ds c ∙ h.gives (c ∷ ds)
      ∙ ap (λ n. capped (w.columns + n)) (from_after_none w.place c ds e (ap is_some none));
}

over_letter : (a g n x : ℕ) → capped (a + ((g + n) + x)) ≡ capped (capped (capped (a + g) + n) + x)
over_letter a g n x = omega arith

given : (c n : ℕ) → columns_of c ≡ Some n → width_of c ≡ n
unfolding width_of
given c n e = ap (λ o. unwrap_or o 0) e

not_zero : (n : ℕ) → (suc n == 0) ≡ false
not_zero n = grind (arith, nat_tests)

with_columns : (w : Words) (n : ℕ) → words_after_letter w (suc n)
    ≡ record { columns = capped (capped (w.columns + gap_before w.place) + suc n); place = Word }
with_columns w n =
    let some : Words = record { columns = capped (capped (w.columns + gap_before w.place) + suc n); place = Word } in
    let none : Words = record { columns = w.columns; place = place_after_mark w.place } in
    ap (λ b. if b then none else some) (not_zero n)

letter_gives : (w : Words) (c n : ℕ) (ds : List ℕ) → is_break_point c ≡ false → columns_of c ≡ Some n
    → capped (w.columns + columns_from w.place (c ∷ ds))
    ≡ capped ((words_after_letter w n).columns + columns_from (words_after_letter w n).place ds)
letter_gives w c zero ds e is =
    ap (λ n. capped (w.columns + n)) (from_after_mark w.place c ds e (ap is_some is) (given c 0 is))
letter_gives w c (suc n) ds e is =
    ap (λ m. capped (w.columns + m))
    (from_after_wide n w.place c ds e (ap is_some is) (given c (suc n) is)
    ∙ ap (λ m. (gap_before w.place + m) + columns_from Word ds) (given c (suc n) is))
    ∙ over_letter w.columns (gap_before w.place) (suc n) (columns_from Word ds)
    ∙ ap (λ k. capped (k.columns + columns_from k.place ds)) (sym (with_columns w n))

pub words_with_letter : (w new : Words) (cs : List ℕ) (c n : ℕ) → is_break_point c ≡ false → columns_of c ≡ Some n
    → new ≡ words_after_letter w n → AreWords w cs → AreWords new (cs ++ c ∷ [])
words_with_letter w new cs c n e is same h = record {
  gives = λ ds.
      whole cs ds c ∙ h.gives (c ∷ ds) ∙ letter_gives w c n ds e is
      ∙ ap (λ k. capped (k.columns + columns_from k.place ds)) (sym same);
}

from_end : (p : Place) → columns_from p [] ≡ rest_at p
from_end Start = refl
from_end Word = refl
from_end (Between space some) = at_end space some
  where
    at_end : (b c : Bool) → gap_if ((b || false) && (c || false)) + 0 + 0 ≡ gap_if (b && c)
    at_end true true = refl
    at_end true false = refl
    at_end false true = refl
    at_end false false = refl

-- where the text ends
pub all_words : (w : Words) (cs : List ℕ) → AreWords w cs
    → capped (words_columns w) ≡ capped (units_columns (units (lettered cs (tt {0}))))
all_words w cs h =
    ap (λ n. capped (w.columns + n)) (sym (from_end w.place)) ∙ sym (h.gives [])
    ∙ ap (λ xs. capped (units_columns (units (letters xs)))) (append-nil cs)
