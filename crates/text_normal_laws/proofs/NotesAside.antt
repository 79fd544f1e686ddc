-- Lines without the notes: unit by unit, the letters that are no notes are filled as if the notes were none.
use Rattle.std.proofs.Common.{◌≡◌, ◌+◌, ◌≤◌, [], ◌∷◌, ◌++◌, ◌∙◌, Bool, List, ap, append-nil, append_assoc, arith, false}
use Rattle.std.proofs.Common.{map, nat_le, refl, subst, sym, true, ℕ}
use Rattle.std.specs.Prelude.{Option, All, fold, if◌then◌else◌}
use Rattle.std.proofs.lemmas.Bool.{false≢true}
use Rattle.std.proofs.lemmas.Bool.Decides.{nat_tests}
use Rattle.std.proofs.lemmas.List.{map-append}
use Rattle.std.proofs.lemmas.List.Elements.{All-head, All-tail}
use Rattle.text_lines.specs.Columns.{width_of}
use Rattle.text_lines.specs.Tagged.{Item, character, characters}
use Rattle.text_pieces.specs.Sources.{is_filled}
use Rattle.text_pieces.proofs.ItemColumns.{characters-append}
use Rattle.text_normal.specs.Units.{Letter, Piece, piece, letters_columns}
use Rattle.text_normal.specs.Layout.{Joint, Mark, columns, cuttable, following_columns, following_items, gap, gap_items}
use Rattle.text_normal.specs.Layout.{inside, mark, marked, marks_items, opens, starts}
use Rattle.text_normal.specs.Greedy.{Filled, filled, ended, all_lines, add_marks, add_mark, add_unit, add_units}
use Rattle.text_normal.specs.Riders.{Rider, plain, note, shown_item}
use Rattle.text_normal.proofs.LayoutSplits.{following_columns-append}
use Rattle.text_normal.proofs.MarkedLemmas.{no_width}
use Rattle.text_normal_laws.proofs.MarkedKept.{IsRiding, AreRiding}
use Rattle.text_normal_laws.proofs.MarkedShown.{letter_codes, codes}

-- ---- letters without the notes

abbrev pub is_plain : {S : Type 0} → Rider S → Bool
is_plain (plain tag) = true
is_plain (note name) = false

abbrev pub bare : {S : Type 0} → List (Letter (Rider S)) → List (Letter (Rider S))
bare [] = []
bare (l ∷ ls) = if is_plain l.tag then l ∷ bare ls else bare ls

pub bare_columns : {S : Type 0} (ls : List (Letter (Rider S))) → AreRiding ls → letters_columns (bare ls)
    ≡ letters_columns ls
bare_columns [] h = refl
bare_columns {S = S} (l ∷ ls) h = by_tag l.tag h.0 (bare_columns ls h.1)
  where
    by_tag : (tag : Rider S) → IsRiding l.code tag → letters_columns (bare ls) ≡ letters_columns ls
        → letters_columns (if is_plain tag then l ∷ bare ls else bare ls) ≡ width_of l.code + letters_columns ls
    by_tag (plain t) rides rest = ap (λ n. width_of l.code + n) rest
    by_tag (note name) rides rest = rest ∙ omega (arith, ap width_of rides, no_width)

bare_codes : {S : Type 0} (ls : List (Letter (Rider S))) → codes (bare ls) ≡ codes ls
bare_codes [] = refl
bare_codes {S = S} (l ∷ ls) = by_tag l.tag refl (bare_codes ls)
  where
    by_tag : (tag : Rider S) → l.tag ≡ tag → codes (bare ls) ≡ codes ls
        → codes (if is_plain tag then l ∷ bare ls else bare ls) ≡ letter_codes l.code tag ++ codes ls
    by_tag (plain t) is rest =
        ap (λ tag. letter_codes l.code tag ++ codes (bare ls)) is ∙ ap (λ cs. l.code ∷ cs) rest
    by_tag (note name) is rest = rest

-- ---- marks: their columns and characters

abbrev pub chars : {S : Type 0} → List (Mark (Rider S)) → List ℕ
chars ms = characters (map shown_item (marks_items ms))

abbrev trailing : {S : Type 0} → List (Mark (Rider S)) → List ℕ
trailing ms = characters (map shown_item (following_items ms))

shown_letter : {S : Type 0} (c : ℕ) (tag : Rider S) (items : List (Item (Rider S)))
    → characters (map shown_item (character c tag ∷ items)) ≡ letter_codes c tag ++ characters (map shown_item items)
shown_letter c (plain tag) items = refl
shown_letter c (note name) items = refl

shown_both : {S : Type 0} (xs ys : List (Item (Rider S))) → characters (map shown_item (xs ++ ys))
    ≡ characters (map shown_item xs) ++ characters (map shown_item ys)
shown_both xs ys =
    ap characters (map-append shown_item xs ys) ∙ characters-append (map shown_item xs) (map shown_item ys)

after_one : {S : Type 0} (m : Mark (Rider S)) (ms : List (Mark (Rider S))) → trailing (m ∷ ms)
    ≡ characters (map shown_item (gap_items m.joint)) ++ (letter_codes m.letter.code m.letter.tag ++ trailing ms)
after_one m ms =
    shown_both (gap_items m.joint) (character m.letter.code m.letter.tag ∷ following_items ms)
    ∙ ap (λ cs. characters (map shown_item (gap_items m.joint)) ++ cs)
    (shown_letter m.letter.code m.letter.tag (following_items ms))

chars_one : {S : Type 0} (m : Mark (Rider S)) (ms : List (Mark (Rider S))) → chars (m ∷ ms)
    ≡ letter_codes m.letter.code m.letter.tag ++ trailing ms
chars_one m ms = shown_letter m.letter.code m.letter.tag (following_items ms)

after_both : {S : Type 0} (xs ys : List (Mark (Rider S))) → trailing (xs ++ ys) ≡ trailing xs ++ trailing ys
after_both [] ys = refl
after_both (x ∷ xs) ys =
    let gaps = characters (map shown_item (gap_items x.joint)) in
    let here = letter_codes x.letter.code x.letter.tag in
    after_one x (xs ++ ys) ∙ ap (λ cs. gaps ++ (here ++ cs)) (after_both xs ys)
    ∙ ap (λ cs. gaps ++ cs) (sym (append_assoc here (trailing xs) (trailing ys)))
    ∙ sym (append_assoc gaps (here ++ trailing xs) (trailing ys)) ∙ ap (λ cs. cs ++ trailing ys) (sym (after_one x xs))

chars_both : {S : Type 0} (x : Mark (Rider S)) (xs ys : List (Mark (Rider S))) → chars (x ∷ (xs ++ ys))
    ≡ chars (x ∷ xs) ++ trailing ys
chars_both x xs ys =
    let here = letter_codes x.letter.code x.letter.tag in
    chars_one x (xs ++ ys) ∙ ap (λ cs. here ++ cs) (after_both xs ys)
    ∙ sym (append_assoc here (trailing xs) (trailing ys)) ∙ ap (λ cs. cs ++ trailing ys) (sym (chars_one x xs))

-- a joint without a gap
abbrev Gapless : {S : Type 0} → Joint S → Type 0
Gapless (opens space) = ⊥
Gapless starts = Unit {0}
Gapless inside = Unit {0}
Gapless cuttable = Unit {0}

no_gap : {S : Type 0} (j : Joint (Rider S)) → Gapless j → (gap j ≡ 0) × (gap_items j ≡ [])
no_gap (opens space) h = absurd h
no_gap starts h = (refl, refl)
no_gap inside h = (refl, refl)
no_gap cuttable h = (refl, refl)

further_columns : {S : Type 0} (j : Joint (Rider S)) (ls : List (Letter (Rider S))) → Gapless j
    → following_columns (map (λ x. mark x j) ls) ≡ letters_columns ls
further_columns j [] h = refl
further_columns j (l ∷ ls) h = omega (arith, (no_gap j h).0, further_columns j ls h)

further_chars : {S : Type 0} (j : Joint (Rider S)) (ls : List (Letter (Rider S))) → Gapless j
    → trailing (map (λ x. mark x j) ls) ≡ codes ls
further_chars j [] h = refl
further_chars j (l ∷ ls) h =
    after_one (mark l j) (map (λ x. mark x j) ls)
    ∙ ap (λ items. characters (map shown_item items) ++ (letter_codes l.code l.tag ++ trailing (map (λ x. mark x j) ls)))
    (no_gap j h).1
    ∙ ap (λ cs. letter_codes l.code l.tag ++ cs) (further_chars j ls h)

-- what stands before a unit that follows
abbrev gap_codes : {S : Type 0} → Joint (Rider S) → List ℕ
gap_codes j = characters (map shown_item (gap_items j))

-- ---- a unit that fits, after a line

abbrev with_unit : {S : Type 0} → List (Mark (Rider S)) → Option (Rider S) → List (Letter (Rider S))
    → List (Mark (Rider S))
with_unit line space ls = line ++ marked (opens space) inside ls

abbrev unit_columns : {S : Type 0} → Bool → ℕ → Option (Rider S) → List (Letter (Rider S)) → ℕ
unit_columns b n space ls = if b then n + (gap (opens space) + letters_columns ls) else letters_columns ls

columns_more : {S : Type 0} (line : List (Mark (Rider S))) (space : Option (Rider S)) (ls : List (Letter (Rider S)))
    → is_filled ls ≡ true → columns (with_unit line space ls)
    ≡ unit_columns (is_filled line) (columns line) space ls
columns_more line space [] some = cc
columns_more [] space (l ∷ ls) some = omega (arith, further_columns inside ls tt)
columns_more (x ∷ xs) space (l ∷ ls) some =
    omega (
      arith,
      following_columns-append xs (marked (opens space) inside (l ∷ ls)),
      further_columns inside ls tt,
    )

abbrev unit_chars : {S : Type 0} → Bool → List ℕ → Option (Rider S) → List (Letter (Rider S)) → List ℕ
unit_chars b cs space ls = if b then cs ++ (gap_codes (opens space) ++ codes ls) else codes ls

chars_more : {S : Type 0} (line : List (Mark (Rider S))) (space : Option (Rider S)) (ls : List (Letter (Rider S)))
    → is_filled ls ≡ true → chars (with_unit line space ls) ≡ unit_chars (is_filled line) (chars line) space ls
chars_more line space [] some = cc
chars_more [] space (l ∷ ls) some =
    chars_one (mark l (opens space)) (map (λ x. mark x inside) ls)
    ∙ ap (λ cs. letter_codes l.code l.tag ++ cs) (further_chars inside ls tt)
chars_more (x ∷ xs) space (l ∷ ls) some =
    chars_both x xs (marked (opens space) inside (l ∷ ls))
    ∙ ap (λ cs. chars (x ∷ xs) ++ cs) (after_one (mark l (opens space)) (map (λ y. mark y inside) ls)
    ∙ ap (λ cs. gap_codes (opens space) ++ (letter_codes l.code l.tag ++ cs)) (further_chars inside ls tt))

-- ---- lines of both, unit by unit

-- A line with notes and one without them show the same, on as many columns.
record AreSame {S : Type 0} (w : ℕ) (f g : Filled (Rider S)) : Type 0 where
  done : map chars f.done ≡ map chars g.done
  line : chars f.line ≡ chars g.line
  cols : columns f.line ≡ columns g.line
  some : is_filled f.line ≡ is_filled g.line
  room : columns f.line ≤ w

-- the same within a unit that is cut: notes alone may stand on the one line where nothing stands on the other yet
record AreCut {S : Type 0} (w : ℕ) (f g : Filled (Rider S)) : Type 0 where
  done : map chars f.done ≡ map chars g.done
  line : chars f.line ≡ chars g.line
  cols : columns f.line ≡ columns g.line
  some : is_filled g.line ≡ true → is_filled f.line ≡ true
  room : columns f.line ≤ w

ended_same : {S : Type 0} (x y : List (Mark (Rider S))) → is_filled x ≡ is_filled y → chars x ≡ chars y
    → map chars (ended x) ≡ map chars (ended y)
ended_same [] [] b same = refl
ended_same [] (m ∷ y) b same = cc
ended_same (m ∷ x) [] b same = cc
ended_same (m ∷ x) (n ∷ y) b same = ap (λ cs. cs ∷ []) same

all_same : {S : Type 0} (f g : Filled (Rider S)) → map chars f.done ≡ map chars g.done → is_filled f.line
    ≡ is_filled g.line → chars f.line ≡ chars g.line → map chars (all_lines f) ≡ map chars (all_lines g)
all_same f g done some line =
    map-append chars f.done (ended f.line)
    ∙ ap (λ ls. ls ++ map chars (ended f.line)) done
    ∙ ap (λ ls. map chars g.done ++ ls) (ended_same f.line g.line some line)
    ∙ sym (map-append chars g.done (ended g.line))

some_more : {S : Type 0} (line : List (Mark S)) (m : Mark S) (ms : List (Mark S)) → is_filled (line ++ m ∷ ms) ≡ true
some_more [] m ms = refl
some_more (x ∷ xs) m ms = refl

unit_some : {S : Type 0} (line : List (Mark (Rider S))) (space : Option (Rider S)) (ls : List (Letter (Rider S)))
    → is_filled ls ≡ true → is_filled (with_unit line space ls) ≡ true
unit_some line space [] some = cc
unit_some line space (l ∷ ls) some = some_more line (mark l (opens space)) (map (λ x. mark x inside) ls)

le_of : (a w : ℕ) → nat_le a w ≡ true → a ≤ w
le_of a w h = grind (arith, nat_tests, h)

le_test : (a w : ℕ) → a ≤ w → nat_le a w ≡ true
le_test a w h = grind (arith, nat_tests, h)

-- a unit that fits
fit_added : {S : Type 0} (w : ℕ) (f g : Filled (Rider S)) (space : Option (Rider S)) (ls : List (Letter (Rider S)))
    → AreSame w f g → AreRiding ls → is_filled ls ≡ true → is_filled (bare ls) ≡ true → letters_columns ls ≤ w
    → AreSame w (add_marks w f (marked (opens space) inside ls)) (add_marks w g (marked (opens space) inside (bare ls)))
fit_added {S = S} w f g space ls h rides some bare_some fits =
    by_test (nat_le (columns (with_unit f.line space ls)) w) (nat_le (columns (with_unit g.line space (bare ls))) w)
    refl (ap (λ n. nat_le n w) same_columns)
  where
    same_columns : columns (with_unit f.line space ls) ≡ columns (with_unit g.line space (bare ls))
    same_columns =
        columns_more f.line space ls some
        ∙ ap (λ b. unit_columns b (columns f.line) space ls) h.some
        ∙ ap (λ n. unit_columns (is_filled g.line) n space ls) h.cols
        ∙ ap (λ n. if is_filled g.line then columns g.line + (gap (opens space) + n) else n)
        (sym (bare_columns ls rides))
        ∙ sym (columns_more g.line space (bare ls) bare_some)

    same_chars : chars (with_unit f.line space ls) ≡ chars (with_unit g.line space (bare ls))
    same_chars =
        chars_more f.line space ls some
        ∙ ap (λ b. unit_chars b (chars f.line) space ls) h.some
        ∙ ap (λ cs. unit_chars (is_filled g.line) cs space ls) h.line
        ∙ ap (λ cs. if is_filled g.line then chars g.line ++ (gap_codes (opens space) ++ cs) else cs)
        (sym (bare_codes ls))
        ∙ sym (chars_more g.line space (bare ls) bare_some)

    alone_columns : columns (marked (opens space) inside ls) ≡ letters_columns ls
    alone_columns = columns_more [] space ls some

    by_test : (a b : Bool) → nat_le (columns (with_unit f.line space ls)) w ≡ a → a ≡ b → AreSame w
        (if a then filled f.done (with_unit f.line space ls)
        else filled (all_lines f) (marked (opens space) inside ls))
        (if b then filled g.done (with_unit g.line space (bare ls))
        else filled (all_lines g) (marked (opens space) inside (bare ls)))
    by_test true false is e = cc
    by_test false true is e = cc
    by_test true true is e = record {
      done = h.done;
      line = same_chars;
      cols = same_columns;
      some = unit_some f.line space ls some ∙ sym (unit_some g.line space (bare ls) bare_some);
      room = le_of (columns (with_unit f.line space ls)) w is;
    }
    by_test false false is e = record {
      done = all_same f g h.done h.some h.line;
      line = chars_more [] space ls some ∙ sym (bare_codes ls) ∙ sym (chars_more [] space (bare ls) bare_some);
      cols = alone_columns ∙ sym (bare_columns ls rides) ∙ sym (columns_more [] space (bare ls) bare_some);
      some = unit_some [] space ls some ∙ sym (unit_some [] space (bare ls) bare_some);
      room = omega (arith, alone_columns, fits);
    }

-- ---- a unit that is cut

one_columns : {S : Type 0} (line : List (Mark (Rider S))) (l : Letter (Rider S)) (j : Joint (Rider S)) → Gapless j
    → columns (line ++ mark l j ∷ []) ≡ columns line + width_of l.code
one_columns [] l j h = omega arith
one_columns (x ∷ xs) l j h = omega (arith, following_columns-append xs (mark l j ∷ []), (no_gap j h).0)

one_chars : {S : Type 0} (line : List (Mark (Rider S))) (l : Letter (Rider S)) (j : Joint (Rider S)) → Gapless j
    → chars (line ++ mark l j ∷ []) ≡ chars line ++ letter_codes l.code l.tag
one_chars [] l j h = chars_one (mark l j) [] ∙ append-nil (letter_codes l.code l.tag)
one_chars (x ∷ xs) l j h =
    chars_both x xs (mark l j ∷ [])
    ∙ ap (λ cs. chars (x ∷ xs) ++ cs) (further_chars j (l ∷ []) h ∙ append-nil (letter_codes l.code l.tag))

letter_added : {S : Type 0} (w : ℕ) (f g : Filled (Rider S)) (l : Letter (Rider S)) (j k : Joint (Rider S)) → Gapless j
    → Gapless k → AreCut w f g → width_of l.code ≤ w → AreCut w (add_mark w f (mark l j)) (add_mark w g (mark l k))
letter_added {S = S} w f g l j k hj hk h fits =
    by_test (nat_le (columns (f.line ++ mark l j ∷ [])) w) (nat_le (columns (g.line ++ mark l k ∷ [])) w) refl
    (ap (λ n. nat_le n w) same_columns)
  where
    same_columns : columns (f.line ++ mark l j ∷ []) ≡ columns (g.line ++ mark l k ∷ [])
    same_columns = one_columns f.line l j hj ∙ ap (λ n. n + width_of l.code) h.cols ∙ sym (one_columns g.line l k hk)

    nothing : (line : List (Mark (Rider S))) → is_filled line ≡ false → columns line ≡ 0
    nothing [] e = refl
    nothing (m ∷ ms) e = cc

    both_some : nat_le (columns (f.line ++ mark l j ∷ [])) w ≡ false → (b : Bool) → is_filled g.line ≡ b
        → is_filled f.line ≡ is_filled g.line
    both_some full true is = h.some is ∙ sym is
    both_some full false is = absurd (false≢true (sym full ∙ le_test (columns (f.line ++ mark l j ∷ [])) w
        (omega (arith, one_columns f.line l j hj, h.cols, nothing g.line is, fits))))

    by_test : (a b : Bool) → nat_le (columns (f.line ++ mark l j ∷ [])) w ≡ a → a ≡ b → AreCut w
        (if a then filled f.done (f.line ++ mark l j ∷ []) else filled (all_lines f) (mark l j ∷ []))
        (if b then filled g.done (g.line ++ mark l k ∷ []) else filled (all_lines g) (mark l k ∷ []))
    by_test true false is e = cc
    by_test false true is e = cc
    by_test true true is e = record {
      done = h.done;
      line = one_chars f.line l j hj ∙ ap (λ cs. cs ++ letter_codes l.code l.tag) h.line
          ∙ sym (one_chars g.line l k hk);
      cols = same_columns;
      some = λ _. some_more f.line (mark l j) [];
      room = le_of (columns (f.line ++ mark l j ∷ [])) w is;
    }
    by_test false false is e = record {
      done = all_same f g h.done (both_some is (is_filled g.line) refl) h.line;
      line = one_chars [] l j hj ∙ sym (one_chars [] l k hk);
      cols = one_columns [] l j hj ∙ sym (one_columns [] l k hk);
      some = λ _. refl;
      room = omega (arith, one_columns [] l j hj, fits);
    }

note_added : {S : Type 0} (w : ℕ) (f g : Filled (Rider S)) (l : Letter (Rider S)) (j : Joint (Rider S)) → Gapless j
    → AreCut w f g → width_of l.code ≡ 0 → letter_codes l.code l.tag ≡ [] → AreCut w (add_mark w f (mark l j)) g
note_added {S = S} w f g l j hj h none bare_tag = by_test (nat_le (columns (f.line ++ mark l j ∷ [])) w) refl
  where
    by_test : (a : Bool) → nat_le (columns (f.line ++ mark l j ∷ [])) w ≡ a → AreCut w
        (if a then filled f.done (f.line ++ mark l j ∷ []) else filled (all_lines f) (mark l j ∷ [])) g
    by_test true is = record {
      done = h.done;
      line = one_chars f.line l j hj ∙ ap (λ cs. chars f.line ++ cs) bare_tag ∙ append-nil (chars f.line) ∙ h.line;
      cols = one_columns f.line l j hj ∙ omega (arith, none, h.cols);
      some = λ _. some_more f.line (mark l j) [];
      room = le_of (columns (f.line ++ mark l j ∷ [])) w is;
    }
    by_test false is = absurd (false≢true (sym is ∙ le_test (columns (f.line ++ mark l j ∷ [])) w
        (omega (arith, one_columns f.line l j hj, none, h.room))))

same_joints : {S : Type 0} (ls : List (Letter S)) → map (λ x. mark x cuttable) ls ≡ marked cuttable cuttable ls
same_joints [] = refl
same_joints (l ∷ ls) = refl

-- one letter of a unit that is cut, and then the others
cut_one : {S : Type 0} (w : ℕ) (l : Letter (Rider S)) (ls : List (Letter (Rider S))) (f g : Filled (Rider S))
    (j k : Joint (Rider S)) → Gapless j → Gapless k → width_of l.code ≤ w → AreCut w f g
    → ((f g : Filled (Rider S)) (k : Joint (Rider S)) → Gapless k → AreCut w f g
    → AreCut w (fold (add_mark w) f (map (λ x. mark x cuttable) ls))
    (fold (add_mark w) g (marked k cuttable (bare ls))))
    → (tag : Rider S) → l.tag ≡ tag → IsRiding l.code tag
    → AreCut w (fold (add_mark w) (add_mark w f (mark l j)) (map (λ x. mark x cuttable) ls))
    (fold (add_mark w) g (marked k cuttable (if is_plain tag then l ∷ bare ls else bare ls)))
cut_one w l ls f g j k hj hk fits h rest (plain t) is r =
    subst (λ ms. AreCut w (fold (add_mark w) (add_mark w f (mark l j)) (map (λ x. mark x cuttable) ls))
    (fold (add_mark w) (add_mark w g (mark l k)) ms)) (sym (same_joints (bare ls)))
    (rest (add_mark w f (mark l j)) (add_mark w g (mark l k)) cuttable tt (letter_added w f g l j k hj hk h fits))
cut_one w l ls f g j k hj hk fits h rest (note name) is r =
    rest (add_mark w f (mark l j)) g k hk
    (note_added w f g l j hj h (ap width_of r ∙ no_width) (ap (letter_codes l.code) is))

-- letters of a unit that is cut
cut_added : {S : Type 0} (w : ℕ) (ls : List (Letter (Rider S))) (f g : Filled (Rider S)) (j k : Joint (Rider S))
    → Gapless j → Gapless k → AreRiding ls → All (λ l. width_of l.code ≤ w) ls → AreCut w f g
    → AreCut w (fold (add_mark w) f (marked j cuttable ls)) (fold (add_mark w) g (marked k cuttable (bare ls)))
cut_added w [] f g j k hj hk rides fits h = h
cut_added w (l ∷ ls) f g j k hj hk rides fits h =
    cut_one w l ls f g j k hj hk (All-head (λ x. width_of x.code ≤ w) l ls fits) h
    (λ f g k hk h. subst (λ ms. AreCut w (fold (add_mark w) f ms) (fold (add_mark w) g (marked k cuttable (bare ls))))
    (sym (same_joints ls))
    (cut_added w ls f g cuttable k tt hk rides.1 (All-tail (λ x. width_of x.code ≤ w) l ls fits) h))
    l.tag refl rides.0

-- after letters a line is never empty
mark_some : {S : Type 0} (w : ℕ) (f : Filled S) (m : Mark S) → is_filled (add_mark w f m).line ≡ true
mark_some w f m = by_test (nat_le (columns (f.line ++ m ∷ [])) w)
  where
    by_test : (b : Bool) → is_filled (Filled.line (if b then filled f.done (f.line ++ m ∷ [])
        else filled (all_lines f) (m ∷ []))) ≡ true
    by_test true = some_more f.line m []
    by_test false = refl

marks_some : {S : Type 0} (w : ℕ) (ms : List (Mark S)) (f : Filled S) → is_filled f.line ≡ true
    → is_filled (fold (add_mark w) f ms).line ≡ true
marks_some w [] f some = some
marks_some w (m ∷ ms) f some = marks_some w ms (add_mark w f m) (mark_some w f m)

unit_leaves_some : {S : Type 0} (w : ℕ) (ls : List (Letter S)) (f : Filled S) → is_filled ls ≡ true
    → is_filled (fold (add_mark w) f (marked starts cuttable ls)).line ≡ true
unit_leaves_some w [] f some = cc
unit_leaves_some w (l ∷ ls) f some =
    marks_some w (map (λ x. mark x cuttable) ls) (add_mark w f (mark l starts)) (mark_some w f (mark l starts))

-- ---- a unit

abbrev pub bare_piece : {S : Type 0} → Piece (Rider S) → Piece (Rider S)
bare_piece p = piece p.space (bare p.letters)

-- notes ride on a letter, and letters fit
pub record IsSound {S : Type 0} (w : ℕ) (p : Piece (Rider S)) : Type 0 where
  pub rides : AreRiding p.letters
  pub fits : All (λ l. width_of l.code ≤ w) p.letters
  pub some : is_filled p.letters ≡ true
  pub bare_some : is_filled (bare p.letters) ≡ true

unit_added : {S : Type 0} (w : ℕ) (f g : Filled (Rider S)) (p : Piece (Rider S)) → IsSound w p → AreSame w f g
    → AreSame w (add_unit w f p) (add_unit w g (bare_piece p))
unit_added {S = S} w f g p sound h =
    by_fit (nat_le (letters_columns p.letters) w) (nat_le (letters_columns (bare p.letters)) w) refl
    (ap (λ n. nat_le n w) (sym (bare_columns p.letters sound.rides)))
  where
    cut : AreCut w (fold (add_mark w) (filled (all_lines f) []) (marked starts cuttable p.letters))
        (fold (add_mark w) (filled (all_lines g) []) (marked starts cuttable (bare p.letters)))
    cut = cut_added w p.letters (filled (all_lines f) []) (filled (all_lines g) []) starts starts tt tt sound.rides
        sound.fits (record {
          done = all_same f g h.done h.some h.line;
          line = refl;
          cols = refl;
          some = λ e. e;
          room = omega arith;
        })

    by_fit : (a b : Bool) → nat_le (letters_columns p.letters) w ≡ a → a ≡ b → AreSame w
        (if a then add_marks w f (marked (opens p.space) inside p.letters)
        else fold (add_mark w) (filled (all_lines f) []) (marked starts cuttable p.letters))
        (if b then add_marks w g (marked (opens p.space) inside (bare p.letters))
        else fold (add_mark w) (filled (all_lines g) []) (marked starts cuttable (bare p.letters)))
    by_fit true false is e = cc
    by_fit false true is e = cc
    by_fit true true is e =
        fit_added w f g p.space p.letters h sound.rides sound.some sound.bare_some
        (le_of (letters_columns p.letters) w is)
    by_fit false false is e = record {
      done = cut.done;
      line = cut.line;
      cols = cut.cols;
      some = unit_leaves_some w p.letters (filled (all_lines f) []) sound.some
          ∙ sym (unit_leaves_some w (bare p.letters) (filled (all_lines g) []) sound.bare_some);
      room = cut.room;
    }

units_added : {S : Type 0} (w : ℕ) (ps : List (Piece (Rider S))) (f g : Filled (Rider S)) → All (IsSound w) ps
    → AreSame w f g → AreSame w (fold (add_unit w) f ps) (fold (add_unit w) g (map bare_piece ps))
units_added w [] f g sound h = h
units_added w (p ∷ ps) f g sound h =
    units_added w ps (add_unit w f p) (add_unit w g (bare_piece p)) (All-tail (IsSound w) p ps sound)
    (unit_added w f g p (All-head (IsSound w) p ps sound) h)

pub units_show_alike : {S : Type 0} (w : ℕ) (ps : List (Piece (Rider S))) → All (IsSound w) ps
    → map chars (all_lines (add_units w ps)) ≡ map chars (all_lines (add_units w (map bare_piece ps)))
units_show_alike w ps sound =
    let h = units_added w ps (filled [] []) (filled [] []) sound
    (record { done = refl; line = refl; cols = refl; some = refl; room = omega arith }) in
    all_same (add_units w ps) (add_units w (map bare_piece ps)) h.done h.some h.line
