-- A letter wider than the width has no layout; the columns of a line, which no layout without overflow passes.
use Rattle.std.proofs.Common.{◌≡◌, ◌+◌, ◌<◌, ◌≤◌, [], ◌∷◌, ◌++◌, ◌∙◌, ⊎_elim, All, List, None, Some, ap, arith, false}
use Rattle.std.proofs.Common.{inr, refl, subst, sym, unwrap_or, ℕ}
use Rattle.std.specs.List.{AllByRecursion}
use Rattle.std.proofs.lemmas.List.Elements.{All-from_recursion, recursion_from_All}
use Rattle.std.proofs.lemmas.List.Sums.{sum_by-cons}
use Rattle.text_lines.specs.Columns.{width_of, columns_of-one, text_columns}
use Rattle.text_lines.specs.Tagged.{Item, character, characters}
use Rattle.text_normal.specs.Layout.{HasNoLayout, IsLayout, IsLine, Joint, Mark, columns, cuttable, following_columns}
use Rattle.text_normal.specs.Layout.{following_items, gap, gap_items, inside, joined_lines, marks_items, opens, starts}
use Rattle.text_normal.proofs.LayoutSplits.{IsLonger, longer_or_within, following_columns-append}

-- ---- a letter wider than the width

columns_hold : {S : Type 0} (before : List (Mark S)) (m : Mark S) (after : List (Mark S))
    → width_of m.letter.code ≤ columns (before ++ m ∷ after)
columns_hold [] m after = omega arith
columns_hold (b ∷ before) m after = let split = following_columns-append before (m ∷ after) in omega arith

line_fits : {S : Type 0} (w : ℕ) (line : List (Mark S)) → IsLine w line → columns line ≤ w
line_fits w [] h = absurd h
line_fits w (m ∷ ms) h = h.2

wider_here : {S : Type 0} (w : ℕ) (line rest before : List (Mark S)) (m : Mark S) (after : List (Mark S))
    → w < width_of m.letter.code → IsLine w line → IsLonger line rest before (m ∷ after) → ⊥
wider_here w line rest before m after wide h long =
    let back : long.next ∷ (long.more ++ rest) ≡ m ∷ after = long.back in
    let same : m ≡ long.next = cc in
    let fits = subst (λ l. columns l ≤ w) long.front (line_fits w line h) in
    let holds = columns_hold before long.next long.more in
    let wider = subst (λ x. w < width_of x.letter.code) same wide in
    omega arith

wider_lines : {S : Type 0} (w : ℕ) (before : List (Mark S)) (m : Mark S) (after : List (Mark S))
    (lines : List (List (Mark S))) → w < width_of m.letter.code → AllByRecursion (IsLine w) lines
    → joined_lines lines ≡ before ++ m ∷ after → ⊥
wider_lines w [] m after [] wide each e = cc
wider_lines w (b ∷ before) m after [] wide each e = cc
wider_lines w before m after (line ∷ lines) wide each e =
    ⊎_elim (λ long. wider_here w line (joined_lines lines) before m after wide each.0 long)
    (λ within. wider_lines w within.past m after lines wide each.1 within.back)
    (longer_or_within line (joined_lines lines) before (m ∷ after) e)

pub no_layout_of_wider : {S : Type 0} (w : ℕ) (before after : List (Mark S)) (m : Mark S) → w < width_of m.letter.code
    → HasNoLayout w false (before ++ m ∷ after)
no_layout_of_wider w before after m wide = λ lines layout. wider_lines w before m after lines wide
    (recursion_from_All (IsLine w) lines layout.each) layout.whole

-- ---- columns

space_columns : width_of 0x20 ≡ 1
unfolding width_of
space_columns = ap (λ o. unwrap_or o 0) (columns_of-one 0x20 (inr (omega arith, omega arith)))

with_letter : {S : Type 0} (c : ℕ) (t : S) (items : List (Item S)) (n : ℕ) → text_columns (characters items) ≡ n
    → text_columns (characters (character c t ∷ items)) ≡ width_of c + n
with_letter c t items n rest = sum_by-cons width_of c (characters items) ∙ ap (λ k. width_of c + k) rest

with_gap : {S : Type 0} (j : Joint S) (items : List (Item S)) (n : ℕ) → text_columns (characters items) ≡ n
    → text_columns (characters (gap_items j ++ items)) ≡ gap j + n
with_gap (opens None) items n rest = omega arith
with_gap (opens (Some tag)) items n rest = with_letter 0x20 tag items n rest ∙ ap (λ k. k + n) space_columns
with_gap starts items n rest = omega arith
with_gap inside items n rest = omega arith
with_gap cuttable items n rest = omega arith

following_width : {S : Type 0} (ms : List (Mark S)) → text_columns (characters (following_items ms)) ≡ following_columns
    ms
following_width [] = refl
following_width (m ∷ ms) =
    let more = with_gap m.joint (character m.letter.code m.letter.tag ∷ following_items ms)
    (width_of m.letter.code + following_columns ms) (with_letter m.letter.code m.letter.tag (following_items ms)
    (following_columns ms) (following_width ms)) in
    omega arith

pub marks_width : {S : Type 0} (line : List (Mark S)) → text_columns (characters (marks_items line)) ≡ columns line
marks_width [] = refl
marks_width (m ∷ ms) = with_letter m.letter.code m.letter.tag (following_items ms) (following_columns ms)
    (following_width ms)

pub line_width : {S : Type 0} (w : ℕ) (line : List (Mark S)) → IsLine w line
    → text_columns (characters (marks_items line)) ≡ columns line
line_width w line h = marks_width line

widths_kept : {S : Type 0} (w : ℕ) (lines : List (List (Mark S))) → AllByRecursion (IsLine w) lines
    → AllByRecursion (λ line. text_columns (characters (marks_items line)) ≤ w) lines
widths_kept w [] each = tt
widths_kept w (line ∷ lines) each = (
  subst (λ n. n ≤ w) (sym (marks_width line)) (line_fits w line each.0),
  widths_kept
      w lines each.1,
)

pub lines_keep_the_width : {S : Type 0} (w : ℕ) (ms : List (Mark S)) (lines : List (List (Mark S)))
    → IsLayout w false ms lines → All (λ line. text_columns (characters (marks_items line)) ≤ w) lines
lines_keep_the_width w ms lines layout = All-from_recursion _ lines
    (widths_kept w lines (recursion_from_All (IsLine w) lines layout.each))
