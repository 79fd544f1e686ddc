-- Normal text that has its widest columns stands on one line.
use Rattle.std.proofs.Common.{◌≡◌, ◌+◌, ◌≤◌, [], ◌∷◌, ◌++◌, ◌∙◌, Bool, List, None, Option, Some, ap, append-nil}
use Rattle.std.proofs.Common.{append_assoc, arith, false, flat_map, fold, is_some, length, map, nat_le, refl, sym}
use Rattle.std.proofs.Common.{true, ℕ}
use Rattle.std.specs.Prelude.{if◌then◌else◌}
use Rattle.std.specs.Option.{option_map}
use Rattle.std.proofs.lemmas.Bool.{cond-true}
use Rattle.std.proofs.lemmas.Bool.Decides.{nat_tests}
use Rattle.text_lines.specs.Columns.{width_of}
use Rattle.text_lines.specs.Tagged.{Item}
use Rattle.text_pieces.specs.Sources.{Source, fragment, letter}
use Rattle.text_normal.specs.Greedy.{add_mark, add_marks, add_unit, add_units, all_lines, ended, filled}
use Rattle.text_normal.specs.Layout.{Mark, columns, cuttable, following_columns, gap, inside, mark, marked}
use Rattle.text_normal.specs.Layout.{marks_items, opens, starts}
use Rattle.text_normal.specs.Letters.{codes_of, has_marker, letters_of}
use Rattle.text_normal.specs.Riders.{normal_lines}
use Rattle.text_normal.specs.Units.{Letter, Piece, lettered, letters_columns, units}
use Rattle.text_normal.proofs.PlainLines.{plain_lines}
use Rattle.text_normal.proofs.Retagging.{repiece, retag, units_retagged}
use Rattle.content_widths.specs.Texts.{further_columns, gap_columns, units_columns}

-- ---- columns of marks

inside_columns : {S : Type 0} (ls : List (Letter S)) → following_columns (map (λ x. mark x inside) ls)
    ≡ letters_columns ls
inside_columns [] = refl
inside_columns (l ∷ ls) = let rest = inside_columns ls in omega arith

abbrev gap_if : Bool → ℕ
gap_if b = if b then 1 else 0

gap_of : {S : Type 0} (space : Option S) → gap (opens space) ≡ gap_if (is_some space)
gap_of None = refl
gap_of (Some tag) = refl

-- a unit's letters, whole on a line
abbrev whole_marks : {S : Type 0} → Piece S → List (Mark S)
whole_marks p = marked (opens p.space) inside p.letters

first_columns : {S : Type 0} (s : Option S) (ls : List (Letter S)) → columns (marked (opens s) inside ls)
    ≡ letters_columns ls
first_columns s [] = refl
first_columns s (l ∷ ls) = ap (λ n. width_of l.code + n) (inside_columns ls)

further_marks : {S : Type 0} (s : Option S) (ls : List (Letter S)) → following_columns (marked (opens s) inside ls)
    ≤ gap_if (is_some s) + letters_columns ls
further_marks s [] = omega arith
further_marks s (l ∷ ls) = omega (arith, inside_columns ls, gap_of s)

following_more : {S : Type 0} (xs ys : List (Mark S)) → following_columns (xs ++ ys)
    ≡ following_columns xs + following_columns ys
following_more [] ys = omega arith
following_more (x ∷ xs) ys = let rest = following_more xs ys in omega arith

line_more : {S : Type 0} (line : List (Mark S)) (p : Piece S) → columns (line ++ whole_marks p)
    ≤ columns line + (gap_columns p + letters_columns p.letters)
line_more [] p = omega (arith, first_columns p.space p.letters)
line_more (m ∷ line) p = omega (arith, following_more line (whole_marks p), further_marks p.space p.letters)

-- ---- units one after another on the line at hand

le_is_true : (a b : ℕ) → a ≤ b → nat_le a b ≡ true
le_is_true a b h = grind (arith, nat_tests)

unit_added : {S : Type 0} (w : ℕ) (line : List (Mark S)) (p : Piece S) → letters_columns p.letters ≤ w
    → columns (line ++ whole_marks p) ≤ w → add_unit w (filled [] line) p ≡ filled [] (line ++ whole_marks p)
unit_added w line p whole fits =
    cond-true (nat_le (letters_columns p.letters) w) (add_marks w (filled [] line) (whole_marks p))
    (fold (add_mark w) (filled (all_lines (filled [] line)) []) (marked starts cuttable p.letters))
    (le_is_true (letters_columns p.letters) w whole)
    ∙ cond-true (nat_le (columns (line ++ whole_marks p)) w) (filled [] (line ++ whole_marks p))
    (filled (all_lines (filled [] line)) (whole_marks p)) (le_is_true (columns (line ++ whole_marks p)) w fits)

units_added : {S : Type 0} (w : ℕ) (line : List (Mark S)) (ps : List (Piece S))
    → columns line + further_columns ps ≤ w
    → fold (add_unit w) (filled [] line) ps ≡ filled [] (line ++ flat_map whole_marks ps)
units_added w line [] fits = ap (filled []) (sym (append-nil line))
units_added w line (p ∷ ps) fits =
    let more = line_more line p in
    ap (λ f. fold (add_unit w) f ps) (unit_added w line p (omega arith) (omega arith))
    ∙ units_added w (line ++ whole_marks p) ps (omega arith)
    ∙ ap (filled []) (append_assoc line (whole_marks p) (flat_map whole_marks ps))

all_added : {S : Type 0} (w : ℕ) (ps : List (Piece S)) → units_columns ps ≤ w
    → add_units w ps ≡ filled [] (flat_map whole_marks ps)
all_added w [] fits = refl
all_added w (p ∷ ps) fits =
    let first = first_columns p.space p.letters in
    ap (λ f. fold (add_unit w) f ps) (unit_added w [] p (omega arith) (omega arith))
    ∙ units_added w (whole_marks p) ps (omega arith)

-- ---- tags have no columns

some_retagged : {A B : Type 0} (f : A → B) (s : Option A) → is_some (option_map f s) ≡ is_some s
some_retagged f None = refl
some_retagged f (Some tag) = refl

letters_retagged : {A B : Type 0} (f : A → B) (ls : List (Letter A)) → letters_columns (map (retag f) ls)
    ≡ letters_columns ls
letters_retagged f [] = refl
letters_retagged f (l ∷ ls) = ap (λ n. width_of l.code + n) (letters_retagged f ls)

gap_retagged : {A B : Type 0} (f : A → B) (s : Option A) → gap_if (is_some (option_map f s))
    ≡ gap_if (is_some s)
gap_retagged f s = ap gap_if (some_retagged f s)

further_retagged : {A B : Type 0} (f : A → B) (ps : List (Piece A)) → further_columns (map (repiece f) ps)
    ≡ further_columns ps
further_retagged f [] = refl
further_retagged f (p ∷ ps) =
    let rest = further_retagged f ps in
    omega (arith, gap_retagged f p.space, letters_retagged f p.letters)

columns_retagged : {A B : Type 0} (f : A → B) (ps : List (Piece A)) → units_columns (map (repiece f) ps)
    ≡ units_columns ps
columns_retagged f [] = refl
columns_retagged f (p ∷ ps) = omega (arith, further_retagged f ps, letters_retagged f p.letters)

bare : {S : Type 0} → S → Unit {0}
bare tag = tt

bare_letters : {S : Type 0} (source : List (Source S)) → lettered (codes_of source) (tt {0})
    ≡ map (retag (bare {S = S})) (letters_of source)
bare_letters {S} [] = refl
bare_letters {S} (letter c main further ∷ rest) =
    ap (λ ls. record { code = c; tag = tt {0} } ∷ ls) (bare_letters rest)
bare_letters {S} (fragment name ∷ rest) = bare_letters rest

widest_is : {S : Type 0} (source : List (Source S)) → units_columns (units (lettered (codes_of source) (tt {0})))
    ≡ units_columns (units (letters_of source))
widest_is {S} source =
    ap (λ ls. units_columns (units ls)) (bare_letters source)
    ∙ ap units_columns (units_retagged (bare {S = S}) (letters_of source))
    ∙ columns_retagged (bare {S = S}) (units (letters_of source))

-- ---- the line

-- the units on one line, if there are any
abbrev pub normal_line : {S : Type 0} → List (Source S) → List (List (Item S))
normal_line source = map marks_items (ended (flat_map whole_marks (units (letters_of source))))

pub normal_is : {S : Type 0} (w : ℕ) (source : List (Source S)) → has_marker source ≡ false
    → units_columns (units (lettered (codes_of source) (tt {0}))) ≤ w → normal_lines w source ≡ normal_line source
normal_is w source none fits =
    let same = widest_is source in
    plain_lines w source none
    ∙ ap (λ f. map marks_items (all_lines f)) (all_added w (units (letters_of source)) (omega arith))

one_at_most : {S : Type 0} (ms : List (Mark S)) → length (map marks_items (ended ms)) ≤ 1
one_at_most [] = omega arith
one_at_most (m ∷ ms) = omega arith

pub normal_line_one : {S : Type 0} (source : List (Source S)) → length (normal_line source) ≤ 1
normal_line_one source = one_at_most (flat_map whole_marks (units (letters_of source)))
