-- Each letter that stands in a unit is among the marks.
use Rattle.std.proofs.Common.{◌≡◌, ◌<◌, ◌&&◌, [], ◌∷◌, ◌++◌, ◌∙◌, Bool, List, None, Option, Some, ap, append_assoc}
use Rattle.std.proofs.Common.{arith, false, filter, flat_map, is_some, map, nat_le, not, refl, subst, sym, true}
use Rattle.std.proofs.Common.{unwrap_or, ℕ}
use Rattle.std.proofs.lemmas.Bool.{cond-true, cond_both}
use Rattle.std.proofs.lemmas.List.{map-append}
use Rattle.std.proofs.lemmas.List.Elements.{filter-append}
use Rattle.text_lines.specs.Columns.{columns_of, width_of}
use Rattle.text_normal.specs.Units.{Letter, Piece, letters_columns, is_break_point, units}
use Rattle.text_normal.specs.Layout.{AreLinesOf, HasNoLayout, IsFullest, Joint, Mark, NeverFits, cuttable, inside, mark}
use Rattle.text_normal.specs.Layout.{marked, marks, marks_items, opens, starts, unit_marks}
use Rattle.text_normal.specs.Greedy.{all_lines, add_units}
use Rattle.text_normal.specs.Filling.{read_letters, nothing_read, lines_read}
use Rattle.text_normal.proofs.UnitsLetters.{stands, letters_of, units_letters}
use Rattle.text_normal.proofs.UnitsReading.{read_is_units}

-- ---- the letters of the marks

letters_of_further : {S : Type 0} (j : Joint S) (ls : List (Letter S)) → map (λ m. m.letter) (map (λ l. mark l j) ls)
    ≡ ls
letters_of_further j [] = refl
letters_of_further j (l ∷ ls) = ap (λ xs. l ∷ xs) (letters_of_further j ls)

letters_of_marked : {S : Type 0} (first further : Joint S) (ls : List (Letter S))
    → map (λ m. m.letter) (marked first further ls) ≡ ls
letters_of_marked first further [] = refl
letters_of_marked first further (l ∷ ls) = ap (λ xs. l ∷ xs) (letters_of_further further ls)

letters_of_unit : {S : Type 0} (w : ℕ) (p : Piece S) → map (λ m. m.letter) (unit_marks w p) ≡ p.letters
letters_of_unit w p =
    cond_both (nat_le (letters_columns p.letters) w) (marked (opens p.space) inside p.letters)
    (marked starts cuttable p.letters) (λ ms. map (λ m. m.letter) ms ≡ p.letters)
    (λ _. letters_of_marked (opens p.space) inside p.letters)
    (λ _. letters_of_marked starts cuttable p.letters)

letters_of_units : {S : Type 0} (w : ℕ) (ps : List (Piece S)) → map (λ m. m.letter) (flat_map (unit_marks w) ps)
    ≡ letters_of ps
letters_of_units w [] = refl
letters_of_units w (p ∷ ps) =
    map-append (λ m. m.letter) (unit_marks w p) (flat_map (unit_marks w) ps)
    ∙ ap (λ xs. xs ++ map (λ m. m.letter) (flat_map (unit_marks w) ps)) (letters_of_unit w p)
    ∙ ap (λ xs. p.letters ++ xs) (letters_of_units w ps)

pub marks_letters : {S : Type 0} (w : ℕ) (read : List (Letter S)) → map (λ m. m.letter) (marks w read) ≡ filter stands
    read
marks_letters w read = letters_of_units w (units read) ∙ units_letters read

-- ---- a letter among the marks

-- the letter, with some joint, is one of the marks
pub record IsMarked {S : Type 0} (l : Letter S) (ms : List (Mark S)) : Type 0 where
  pub front : List (Mark S)
  pub here : Mark S
  pub back : List (Mark S)
  pub whole : ms ≡ front ++ here ∷ back
  pub same : here.letter ≡ l

marked_at : {S : Type 0} (l : Letter S) (ms : List (Mark S)) (before after : List (Letter S))
    → map (λ m. m.letter) ms ≡ before ++ l ∷ after → IsMarked l ms
marked_at l [] [] after h = cc
marked_at l [] (b ∷ before) after h = cc
marked_at l (m ∷ ms) [] after h = record { front = []; here = m; back = ms; whole = refl; same = cc }
marked_at l (m ∷ ms) (b ∷ before) after h =
    let rest : map (λ n. n.letter) ms ≡ before ++ l ∷ after = cc in let at = marked_at l ms before after rest in
    record {
      front = m ∷ at.front;
      here = at.here;
      back = at.back;
      whole = ap
          (λ ns. m ∷ ns) {y = at.front ++ at.here ∷ at.back} at.whole;
      same = at.same;
    }

stands_here : (b c : Bool) → b ≡ false → c ≡ true → (not b && c) ≡ true
stands_here true c h k = cc
stands_here false c h k = k

filter_around : {S : Type 0} (l : Letter S) (front back : List (Letter S)) → stands l ≡ true
    → filter stands (front ++ l ∷ back) ≡ filter stands front ++ l ∷ filter stands back
filter_around l front back h =
    filter-append stands front (l ∷ back) ∙ ap (λ xs. filter stands front ++ xs)
    (cond-true (stands l) (l ∷ filter stands back) (filter stands back) h)

pub letter_marked : {S : Type 0} (w : ℕ) (front back : List (Letter S)) (l : Letter S) → is_break_point l.code ≡ false
    → is_some (columns_of l.code) ≡ true → IsMarked l (marks w (front ++ l ∷ back))
letter_marked w front back l solid some =
    marked_at l (marks w (front ++ l ∷ back)) (filter stands front) (filter stands back)
    (marks_letters w (front ++ l ∷ back) ∙ filter_around l front back (stands_here (is_break_point l.code)
    (is_some (columns_of l.code)) solid some))

put_between : {A : Type 0} (before front : List A) (x : A) (back after : List A)
    → before ++ ((front ++ x ∷ back) ++ after) ≡ (before ++ front) ++ x ∷ (back ++ after)
put_between before front x back after =
    ap (λ xs. before ++ xs) (append_assoc front (x ∷ back) after)
    ∙ sym (append_assoc before front (x ∷ (back ++ after)))

-- a letter that stands in a unit of a stretch is marked, whatever stands around that stretch
pub letter_marked_within : {S : Type 0} (w : ℕ) (read before after front back : List (Letter S)) (l : Letter S)
    → read ≡ front ++ l ∷ back → is_break_point l.code ≡ false → is_some (columns_of l.code) ≡ true
    → IsMarked l (marks w (before ++ (read ++ after)))
letter_marked_within w read before after front back l split solid some =
    let whole : before ++ (read ++ after) ≡ (before ++ front) ++ l ∷ (back ++ after) = ap
    (λ xs. before ++ (xs ++ after)) split ∙ put_between before front l back after in
    subst (λ xs. IsMarked l (marks w xs)) (sym whole) (letter_marked w (before ++ front) (back ++ after) l solid some)

pub wider_letter_marked : {S : Type 0} (w : ℕ) (read before after front back : List (Letter S)) (l : Letter S) (n : ℕ)
    → read ≡ front ++ l ∷ back → is_break_point l.code ≡ false → columns_of l.code ≡ Some n
    → IsMarked l (marks w (before ++ (read ++ after)))
wider_letter_marked w read before after front back l n split solid columns =
    letter_marked_within w read before after front back l split solid (ap is_some columns)

-- ---- what follows from the theorems on layouts

wider_has_columns : (o : Option ℕ) (w : ℕ) → w < unwrap_or o 0 → is_some o ≡ true
wider_has_columns None w h = absurd (omega (arith, h))
wider_has_columns (Some n) w h = refl

pub wider_is_some : (c w : ℕ) → w < width_of c → is_some (columns_of c) ≡ true
unfolding width_of
wider_is_some c w h = wider_has_columns (columns_of c) w h

-- a letter wider than the width rules out every layout of a stretch that holds it
pub never_fits : {S : Type 0} (w : ℕ) → ((before after : List (Mark S)) (m : Mark S) → w < width_of m.letter.code
    → HasNoLayout w false (before ++ m ∷ after))
    → (read front back : List (Letter S)) (l : Letter S) → read ≡ front ++ l ∷ back → is_break_point l.code ≡ false
    → w < width_of l.code → NeverFits w false read
never_fits w none read front back l split solid wide before after =
    let at = letter_marked_within w read before after front back l split solid (wider_is_some l.code w wide) in
    subst (HasNoLayout w false) (sym at.whole) (none at.front at.back at.here
    (subst (λ x. w < width_of x.code) (sym at.same) wide))

-- lines that were read are the lines of the stretch, where adding units gives the fullest layout
pub are_lines : {S : Type 0} (w : ℕ) (overflow : Bool) (read : List (Letter S)) → IsFullest w overflow (marks w read)
    (all_lines (add_units w (units read)))
    → AreLinesOf w overflow read (map marks_items (lines_read w (read_letters w nothing_read read)))
are_lines w overflow read fullest =
    record {
      layout = all_lines (add_units w (units read));
      fullest = fullest;
      shown = ap (map marks_items)
          (read_is_units w read);
    }
