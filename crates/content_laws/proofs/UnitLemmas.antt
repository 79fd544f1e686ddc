-- No unit is wider than the text's narrowest columns.
use Rattle.std.proofs.Common.{◌≡◌, ◌+◌, ◌≤◌, [], ◌∷◌, ◌++◌, All, Bool, List, None, Option, arith, false, flat_map}
use Rattle.std.proofs.Common.{is_some, ltb-false, map, max, nat_le, refl, true, ℕ}
use Rattle.std.specs.Prelude.{if◌then◌else◌}
use Rattle.std.proofs.lemmas.Bool.{cond-true}
use Rattle.std.proofs.lemmas.Bool.Decides.{nat_tests}
use Rattle.std.proofs.lemmas.List.Elements.{All-append, All-cons, All-filter, All-head, All-map, All-nil, All-same}
use Rattle.std.proofs.lemmas.List.Elements.{All-tail, All-weaker}
use Rattle.text_lines.specs.Columns.{columns_of, width_of}
use Rattle.text_normal.specs.Layout.{Mark, inside, mark, marked, marks, opens, cuttable, starts, unit_marks}
use Rattle.text_normal.specs.Units.{Letter, Piece, first_of, has_columns, has_letters, is_break_point, joined, joining}
use Rattle.text_normal.specs.Units.{letters_columns, piece, pieces_after, space_of, units, with_front}
use Rattle.text_normal.proofs.UnitsReading.{letters_columns-append}
use Rattle.content_widths.specs.Texts.{front_columns, narrowest_of}
use Rattle.content_laws.specs.Whole.{codes, stands_whole}

abbrev AreWithin : {S : Type 0} → ℕ → List (Piece S) → Type 0
AreWithin most ps = All (λ p. letters_columns p.letters ≤ most) ps

within_more : {S : Type 0} (n m : ℕ) (ps : List (Piece S)) → n ≤ m → AreWithin n ps → AreWithin m ps
within_more n m ps le h =
    All-weaker (λ p. letters_columns p.letters ≤ n) (λ p. letters_columns p.letters ≤ m) (λ p k. omega arith) ps h

-- ---- pieces

-- the first has no more columns than what stands before the first break point
abbrev FrontWithin : {S : Type 0} → ℕ → ℕ → List (Piece S) → Type 0
FrontWithin front most [] = Unit {0}
FrontWithin front most (p ∷ ps) = (letters_columns p.letters ≤ front) × AreWithin most ps

front_within : (cs : List ℕ) → front_columns cs ≤ narrowest_of cs
front_within [] = omega arith
front_within (c ∷ cs) = omega arith

all_within : {S : Type 0} (front most : ℕ) (ps : List (Piece S)) → front ≤ most → FrontWithin front most ps
    → AreWithin most ps
all_within front most [] le h = All-nil (λ p. letters_columns p.letters ≤ most)
all_within front most (p ∷ ps) le h = All-cons (λ q. letters_columns q.letters ≤ most) p ps (omega arith) h.1

front_letter : {S : Type 0} (l : Letter S) (ls : List (Letter S)) (front : ℕ) (b : Bool)
    → letters_columns ls ≤ front → letters_columns (if b then l ∷ ls else ls) ≤ width_of l.code + front
front_letter l ls front true h = omega arith
front_letter l ls front false h = omega arith

with_front_within : {S : Type 0} (l : Letter S) (front most : ℕ) (ps : List (Piece S)) → FrontWithin front most ps
    → FrontWithin (width_of l.code + front) (max (width_of l.code + front) most) (with_front l ps)
with_front_within l front most [] h = tt
with_front_within l front most (p ∷ ps) h = (
  front_letter l p.letters front (is_some (columns_of l.code)) h.0,
  within_more most (max (width_of l.code + front) most) ps (omega arith) h.1,
)

pieces_within : {S : Type 0} (s : Option S) (ls : List (Letter S))
    → FrontWithin (front_columns (codes ls)) (narrowest_of (codes ls)) (pieces_after s ls)
pieces_within s [] = (omega arith, All-nil (λ p. letters_columns p.letters ≤ 0))
pieces_within {S} s (l ∷ ls) = by_break (is_break_point l.code) (λ t. pieces_within t ls)
  where
    by_break : (b : Bool)
        → ((t : Option S) → FrontWithin (front_columns (codes ls)) (narrowest_of (codes ls)) (pieces_after t ls))
        → FrontWithin (if b then 0 else width_of l.code + front_columns (codes ls))
        (max (if b then 0 else width_of l.code + front_columns (codes ls)) (narrowest_of (codes ls)))
        (if b then piece s [] ∷ pieces_after (space_of l) ls else with_front l (pieces_after s ls))
    by_break true rest = (
      omega arith,
      within_more (narrowest_of (codes ls)) (max 0 (narrowest_of (codes ls)))
          (pieces_after (space_of l) ls) (omega arith)
          (all_within (front_columns (codes ls)) (narrowest_of (codes ls)) (pieces_after (space_of l) ls)
          (front_within (codes ls)) (rest (space_of l))),
    )
    by_break false rest =
        with_front_within l (front_columns (codes ls)) (narrowest_of (codes ls)) (pieces_after s ls) (rest s)

-- ---- units

joining_within : {S : Type 0} (n : ℕ) (p : Piece S) (ps : List (Piece S)) → letters_columns p.letters ≤ n
    → AreWithin n ps → AreWithin n (joining p ps)
joining_within n p [] le h = All-cons (λ q. letters_columns q.letters ≤ n) p [] le h
joining_within {S} n p (q ∷ qs) le h = by_columns (has_columns p.letters) refl
  where
    by_columns : (b : Bool) → has_columns p.letters ≡ b → AreWithin n (if b then p ∷ q ∷ qs
        else piece (first_of p.space q.space) (p.letters ++ q.letters) ∷ qs)
    by_columns true has = All-cons (λ r. letters_columns r.letters ≤ n) p (q ∷ qs) le h
    by_columns false has =
        let none = ltb-false 0 (letters_columns p.letters) has in
        let first = All-head (λ r. letters_columns r.letters ≤ n) q qs h in
        All-cons (λ r. letters_columns r.letters ≤ n) (piece (first_of p.space q.space) (p.letters ++ q.letters)) qs
        (omega (arith, letters_columns-append p.letters q.letters))
        (All-tail (λ r. letters_columns r.letters ≤ n) q qs h)

joined_within : {S : Type 0} (n : ℕ) (ps : List (Piece S)) → AreWithin n ps → AreWithin n (joined ps)
joined_within n [] h = h
joined_within n (p ∷ ps) h =
    joining_within n p (joined ps) (All-head (λ q. letters_columns q.letters ≤ n) p ps h)
    (joined_within n ps (All-tail (λ q. letters_columns q.letters ≤ n) p ps h))

pub units_within : {S : Type 0} (width : ℕ) (ls : List (Letter S)) → narrowest_of (codes ls) ≤ width
    → AreWithin width (units ls)
units_within width ls le =
    All-filter has_letters (λ p. letters_columns p.letters ≤ width) (joined (pieces_after None ls))
    (joined_within width (pieces_after None ls)
    (within_more (narrowest_of (codes ls)) width (pieces_after None ls) le
    (all_within (front_columns (codes ls)) (narrowest_of (codes ls)) (pieces_after None ls)
    (front_within (codes ls)) (pieces_within None ls))))

-- ---- marks

abbrev AreWhole : {S : Type 0} → List (Mark S) → Type 0
AreWhole ms = All (λ m. stands_whole m.joint ≡ true) ms

marked_whole : {S : Type 0} (space : Option S) (ls : List (Letter S)) → AreWhole (marked (opens space) inside ls)
marked_whole space [] = All-nil (λ m. stands_whole m.joint ≡ true)
marked_whole space (l ∷ ls) =
    All-cons (λ m. stands_whole m.joint ≡ true) (mark l (opens space)) (map (λ x. mark x inside) ls) refl
    (All-map (λ m. stands_whole m.joint ≡ true) (λ x. mark x inside) ls (λ k d at. refl))

unit_whole : {S : Type 0} (width : ℕ) (p : Piece S) → letters_columns p.letters ≤ width
    → AreWhole (unit_marks width p)
unit_whole width p le =
    let fits : nat_le (letters_columns p.letters) width ≡ true = grind (arith, nat_tests) in
    All-same (λ m. stands_whole m.joint ≡ true) (unit_marks width p) (marked (opens p.space) inside p.letters)
    (cond-true (nat_le (letters_columns p.letters) width) (marked (opens p.space) inside p.letters)
    (marked starts cuttable p.letters) fits)
    (marked_whole p.space p.letters)

each_whole : {S : Type 0} (width : ℕ) (ps : List (Piece S)) → AreWithin width ps
    → AreWhole (flat_map (unit_marks width) ps)
each_whole width [] h = All-nil (λ m. stands_whole m.joint ≡ true)
each_whole width (p ∷ ps) h =
    All-append (λ m. stands_whole m.joint ≡ true) (unit_marks width p) (flat_map (unit_marks width) ps)
    (unit_whole width p (All-head (λ q. letters_columns q.letters ≤ width) p ps h))
    (each_whole width ps (All-tail (λ q. letters_columns q.letters ≤ width) p ps h))

pub marks_whole : {S : Type 0} (width : ℕ) (ls : List (Letter S)) → narrowest_of (codes ls) ≤ width
    → AreWhole (marks width ls)
marks_whole width ls le = each_whole width (units ls) (units_within width ls le)
