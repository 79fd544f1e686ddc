-- The fullest layout has the fewest lines and is the only one.
use Rattle.std.proofs.Common.{◌≡◌, ◌+◌, ◌≤◌, ◌⊎◌, [], ◌∷◌, ◌++◌, ◌∙◌, Bool, List, ap, arith, false, inl, inr}
use Rattle.std.proofs.Common.{le_antisymm, length, length-append, refl, subst, suc, sym, true, ℕ}
use Rattle.std.specs.List.{AllByRecursion}
use Rattle.std.proofs.lemmas.List.Elements.{All-from_recursion, recursion_from_All}
use Rattle.text_normal.specs.Layout.{Mark, columns, IsLine, IsAllowed, IsLayout, IsFullest, joined_lines}
use Rattle.text_normal.proofs.LayoutSplits.{CanBegin, Follow, IsLonger, IsWithin, following_columns-append, lines_begin}
use Rattle.text_normal.proofs.LayoutSplits.{longer_or_within, run_from_allowed, same_fronts}

-- ---- what is left of a layout

each_of : {S : Type 0} (w : ℕ) (o : Bool) (ms : List (Mark S)) (lines : List (List (Mark S))) → IsLayout w o ms lines
    → AllByRecursion (IsAllowed w o) lines
each_of w o ms lines layout = recursion_from_All (IsAllowed w o) lines layout.each

layout_of : {S : Type 0} (w : ℕ) (o : Bool) (ms : List (Mark S)) (lines : List (List (Mark S)))
    → joined_lines lines ≡ ms → AllByRecursion (IsAllowed w o) lines → IsLayout w o ms lines
layout_of w o ms lines whole each = record { whole = whole; each = All-from_recursion (IsAllowed w o) lines each }

Follow-tail : {S : Type 0} (xs ys : List (Mark S)) → Follow (xs ++ ys) → Follow ys
Follow-tail [] ys h = h
Follow-tail (x ∷ xs) ys h = Follow-tail xs ys h.1

tail_fits : {S : Type 0} (w : ℕ) (m : Mark S) (front : List (Mark S)) (n : Mark S) (rest : List (Mark S))
    → columns (m ∷ (front ++ n ∷ rest)) ≤ w → columns (n ∷ rest) ≤ w
tail_fits w m front n rest h = let split = following_columns-append front (n ∷ rest) in omega arith

line_tail : {S : Type 0} (w : ℕ) (m : Mark S) (front : List (Mark S)) (n : Mark S) (rest : List (Mark S))
    → IsLine w (m ∷ (front ++ n ∷ rest)) → CanBegin (n ∷ rest) → IsLine w (n ∷ rest)
line_tail w m front n rest line begins =
    let follow = Follow-tail front (n ∷ rest) (recursion_from_All _ (front ++ n ∷ rest) line.1) in
    (begins, All-from_recursion _ rest follow.1, tail_fits w m front n rest line.2)

-- the end of an allowed line that can begin one is an allowed line
allowed_tail : {S : Type 0} (w : ℕ) (o : Bool) (m : Mark S) (front : List (Mark S)) (n : Mark S) (rest : List (Mark S))
    → IsAllowed w o (m ∷ (front ++ n ∷ rest)) → CanBegin (n ∷ rest) → IsAllowed w o (n ∷ rest)
allowed_tail w false m front n rest line begins = line_tail w m front n rest line begins
allowed_tail w true m front n rest (inl line) begins = inl (line_tail w m front n rest line begins)
allowed_tail w true m [] n rest (inr line) begins = absurd line
allowed_tail w true m (x ∷ front) n rest (inr line) begins = absurd line

-- a layout of the marks, with at most so many lines
record HasLayoutWithin {S : Type 0} (w : ℕ) (o : Bool) (ms : List (Mark S)) (most : ℕ) : Type 0 where
  lines : List (List (Mark S))
  layout : IsLayout w o ms lines
  within : length lines ≤ most

tail_allowed : {S : Type 0} (w : ℕ) (o : Bool) (front : List (Mark S)) (n : Mark S) (rest : List (Mark S))
    → IsAllowed w o (front ++ n ∷ rest) → CanBegin (n ∷ rest) → IsAllowed w o (n ∷ rest)
tail_allowed w o [] n rest h begins = h
tail_allowed w o (m ∷ front) n rest h begins = allowed_tail w o m front n rest h begins

rest_of_line : {S : Type 0} (w : ℕ) (o : Bool) (front line b : List (Mark S)) (lines : List (List (Mark S)))
    → IsAllowed w o line → AllByRecursion (IsAllowed w o) lines → CanBegin b
    → IsLonger line (joined_lines lines) front b
    → HasLayoutWithin w o b (suc (length lines))
rest_of_line w o front line b lines allowed each begins long = record {
  lines = (long.next ∷ long.more) ∷ lines;
  layout = layout_of w o b ((long.next ∷ long.more) ∷ lines) long.back (
    tail_allowed w o front long.next long.more
        (subst (IsAllowed w o) long.front allowed) (subst CanBegin (sym long.back) begins),
    each,
  );
  within = omega arith;
}

one_line_more : {S : Type 0} (w : ℕ) (o : Bool) (ms : List (Mark S)) (n : ℕ) → HasLayoutWithin w o ms n
    → HasLayoutWithin w o ms (suc n)
one_line_more w o ms n h = let before = h.within in record { lines = h.lines; layout = h.layout; within = omega arith }

no_lines : {S : Type 0} (w : ℕ) (o : Bool) (front b : List (Mark S)) → [] ≡ front ++ b → HasLayoutWithin w o b 0
no_lines w o [] b e = record { lines = []; layout = layout_of w o b [] e tt; within = omega arith }
no_lines w o (x ∷ front) b e = cc

by_line : {S : Type 0} (w : ℕ) (o : Bool) (front line b : List (Mark S)) (lines : List (List (Mark S)))
    → IsAllowed w o line → AllByRecursion (IsAllowed w o) lines → CanBegin b
    → ((past : List (Mark S)) → joined_lines lines ≡ past ++ b → HasLayoutWithin w o b (length lines))
    → IsLonger line (joined_lines lines) front b ⊎ IsWithin line (joined_lines lines) front b
    → HasLayoutWithin w o b (suc (length lines))
by_line w o front line b lines allowed each begins further (inl long) = rest_of_line w o front line b lines allowed each
    begins long
by_line w o front line b lines allowed each begins further (inr within) = one_line_more w o b (length lines)
    (further within.past within.back)

-- where a line can begin, what is left of a layout is a layout of what is left
rest_layout : {S : Type 0} (w : ℕ) (o : Bool) (front b : List (Mark S)) (lines : List (List (Mark S)))
    → joined_lines lines ≡ front ++ b → AllByRecursion (IsAllowed w o) lines → CanBegin b → HasLayoutWithin w o b
    (length lines)
rest_layout w o front b [] e each begins = no_lines w o front b e
rest_layout w o front b (line ∷ lines) e each begins =
    by_line w o front line b lines each.0 each.1 begins (λ past back. rest_layout w o past b lines back each.1 begins)
    (longer_or_within line (joined_lines lines) front b e)

-- ---- the rest of a fullest layout

rest_is_fullest : {S : Type 0} (w : ℕ) (o : Bool) (ms line : List (Mark S)) (lines : List (List (Mark S)))
    → IsFullest w o ms (line ∷ lines) → IsFullest w o (joined_lines lines) lines
rest_is_fullest w o ms line lines h =
    let each = each_of w o ms (line ∷ lines) h.layout in
    record {
      layout = layout_of w o (joined_lines lines) lines refl each.1;
      full = λ before here after other others cut layout.
          h.full (line ∷ before) here after other others (ap (λ ls. line ∷ ls) cut)
          (layout_of w o ms (line ∷ (before ++ other ∷ others)) (ap (λ xs. line ++ xs) layout.whole ∙ h.layout.whole)
          (each.0, each_of w o (joined_lines lines) (before ++ other ∷ others) layout));
    }

no_empty_lines : {S : Type 0} (w : ℕ) (o : Bool) (line rest : List (Mark S)) → IsAllowed w o line → [] ≡ line ++ rest
    → ⊥
no_empty_lines w o [] rest allowed e = run_from_allowed w o [] allowed
no_empty_lines w o (m ∷ ms) rest allowed e = cc

-- ---- the fewest lines

reached : {A : Type 0} (other rest line after : List A) → length other ≤ length line
    → IsLonger other rest line after ⊎ IsWithin other rest line after → IsWithin other rest line after
reached other rest line after short (inl long) = let longer : length other ≡ length line + suc (length long.more) = ap
    length long.front ∙ length-append line (long.next ∷ long.more) in absurd (omega arith)
reached other rest line after short (inr within) = within

pub fewest_lines : {S : Type 0} (w : ℕ) (o : Bool) (ms : List (Mark S)) (lines others : List (List (Mark S)))
    → IsFullest w o ms lines → IsLayout w o ms others → length lines ≤ length others
fewest_lines w o ms [] others h layout = omega arith
fewest_lines w o ms (line ∷ lines) [] h layout = absurd (no_empty_lines w o line (joined_lines lines)
    (each_of w o ms (line ∷ lines) h.layout).0 (layout.whole ∙ sym h.layout.whole))
fewest_lines w o ms (line ∷ lines) (other ∷ others) h layout =
    let short : length other ≤ length line = h.full [] line lines other others refl layout in
    let within = reached other (joined_lines others) line (joined_lines lines) short
    (longer_or_within other (joined_lines others) line (joined_lines lines) (layout.whole ∙ sym h.layout.whole)) in
    let begins = lines_begin w o lines (each_of w o ms (line ∷ lines) h.layout).1 in
    let left = rest_layout w o within.past (joined_lines lines) others within.back
    (each_of w o ms (other ∷ others) layout).1 begins in
    let most : length left.lines ≤ length others = left.within in
    let fewer : length lines ≤ length left.lines = fewest_lines w o (joined_lines lines) lines left.lines
    (rest_is_fullest w o ms line lines h) left.layout in
    omega arith

-- ---- only one

pub one_fullest : {S : Type 0} (w : ℕ) (o : Bool) (ms : List (Mark S)) (lines others : List (List (Mark S)))
    → IsFullest w o ms lines → IsFullest w o ms others → lines ≡ others
one_fullest w o ms [] [] h k = refl
one_fullest w o ms [] (other ∷ others) h k = absurd (no_empty_lines w o other (joined_lines others)
    (each_of w o ms (other ∷ others) k.layout).0 (h.layout.whole ∙ sym k.layout.whole))
one_fullest w o ms (line ∷ lines) [] h k = absurd (no_empty_lines w o line (joined_lines lines)
    (each_of w o ms (line ∷ lines) h.layout).0 (k.layout.whole ∙ sym h.layout.whole))
one_fullest w o ms (line ∷ lines) (other ∷ others) h k =
    let same = same_fronts line (joined_lines lines) other (joined_lines others) (h.layout.whole ∙ sym k.layout.whole)
    (le_antisymm (k.full [] other others line lines refl h.layout)
    (h.full [] line lines other others refl k.layout)) in
    let first : line ≡ other = same.0 in
    let rest : lines ≡ others = one_fullest w o (joined_lines lines) lines others (rest_is_fullest w o ms line lines h)
    (subst (λ xs. IsFullest w o xs others) (sym same.1) (rest_is_fullest w o ms other others k)) in
    cc
