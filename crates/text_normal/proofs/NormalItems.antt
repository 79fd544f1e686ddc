-- What stands on a line, and its columns.
use Rattle.std.proofs.Common.{◌≡◌, ℕ, ◌+◌, List, [], ◌∷◌, ◌++◌, map, sym, ap, ◌∙◌, refl, inr, append_assoc, arith}
use Rattle.std.specs.Prelude.{Option, None, Some, unwrap_or}
use Rattle.std.proofs.lemmas.List.Sums.{sum_by-cons}
use Rattle.text_lines.specs.Columns.{columns_of, text_columns, width_of, columns_of-one}
use Rattle.text_lines.specs.Tagged.{Item, character, characters, line_columns, tagged}
use Rattle.text_normal.specs.Units.{Letter, letters_columns}
use Rattle.text_normal.specs.Layout.{Joint, Mark, columns, cuttable, following_columns, following_items, gap, gap_items}
use Rattle.text_normal.specs.Layout.{inside, mark, marked, marks_items, opens, starts}
use Rattle.text_normal.specs.NormalStates.{letter_items, space_columns, space_after, AreGapless, ShowsAs}

-- ---- columns

space_width : width_of 0x20 ≡ 1
unfolding width_of
space_width = ap (λ o. unwrap_or o 0) (columns_of-one 0x20 (inr (omega arith, omega arith)))

one_more : {S : Type 0} (code : ℕ) (tag : S) (items : List (Item S))
    → line_columns (character code tag ∷ items) ≡ width_of code + line_columns items
one_more code tag items = sum_by-cons width_of code (characters items)

gap_counted : {S : Type 0} (j : Joint S) (items : List (Item S))
    → line_columns (gap_items j ++ items) ≡ gap j + line_columns items
gap_counted (opens (Some tag)) items = one_more 0x20 tag items ∙ ap (λ n. n + line_columns items) space_width
gap_counted (opens None) items = omega arith
gap_counted starts items = omega arith
gap_counted inside items = omega arith
gap_counted cuttable items = omega arith

following_counted : {S : Type 0} (ms : List (Mark S)) → line_columns (following_items ms) ≡ following_columns ms
following_counted [] = refl
following_counted (m ∷ ms) =
    let rest = following_counted ms in
    let one = one_more m.letter.code m.letter.tag (following_items ms) in
    let all = gap_counted m.joint (character m.letter.code m.letter.tag ∷ following_items ms) in
    omega (arith, rest, one, all)

pub marks_counted : {S : Type 0} (ms : List (Mark S)) → line_columns (marks_items ms) ≡ columns ms
marks_counted [] = refl
marks_counted (m ∷ ms) =
    let rest = following_counted ms in
    let one = one_more m.letter.code m.letter.tag (following_items ms) in
    omega (arith, rest, one)

pub run_counted : {S : Type 0} (cs : List ℕ) (tag : S) → text_columns cs ≡ line_columns (tagged cs tag)
run_counted cs tag = ap text_columns (same cs)
  where
    same : (cs : List ℕ) → cs ≡ characters (tagged cs tag)
    same [] = refl
    same (c ∷ cs) = ap (λ rest. c ∷ rest) (same cs)

pub letters_counted : {S : Type 0} (ls : List (Letter S)) → line_columns (letter_items ls) ≡ letters_columns ls
letters_counted [] = refl
letters_counted (l ∷ ls) =
    let rest = letters_counted ls in
    let one = one_more l.code l.tag (letter_items ls) in
    omega (arith, rest, one)

-- ---- letters after those of a line

pub following_items-append : {S : Type 0} (xs ys : List (Mark S)) → following_items (xs ++ ys) ≡ following_items
    xs ++ following_items ys
following_items-append [] ys = refl
following_items-append (x ∷ xs) ys =
    ap (λ rest. gap_items x.joint ++ character x.letter.code x.letter.tag ∷ rest) (following_items-append xs ys)
    ∙ sym (append_assoc (gap_items x.joint) (character x.letter.code x.letter.tag ∷ following_items xs)
    (following_items ys))

following_columns-append : {S : Type 0} (xs ys : List (Mark S)) → following_columns (xs ++ ys) ≡ following_columns
    xs + following_columns ys
following_columns-append [] ys = omega arith
following_columns-append (x ∷ xs) ys = let rest = following_columns-append xs ys in omega (arith, rest)

-- what letters add to a line
abbrev pub after_items : {S : Type 0} → List (Mark S) → List (Mark S) → List (Item S)
after_items [] ms = marks_items ms
after_items (n ∷ ns) ms = following_items ms

pub items_after : {S : Type 0} (line ms : List (Mark S)) → marks_items (line ++ ms) ≡ marks_items line ++ after_items
    line ms
items_after [] ms = refl
items_after (n ∷ ns) ms = ap (λ rest. character n.letter.code n.letter.tag ∷ rest) (following_items-append ns ms)

pub columns_after : {S : Type 0} (n : Mark S) (ns ms : List (Mark S)) → columns ((n ∷ ns) ++ ms) ≡ columns
    (n ∷ ns) + following_columns ms
columns_after n ns ms = let rest = following_columns-append ns ms in omega (arith, rest)

-- ---- a unit that fits a line

inside_items : {S : Type 0} (ls : List (Letter S)) → following_items (map (λ l. mark l inside) ls) ≡ letter_items ls
inside_items [] = refl
inside_items (l ∷ ls) = ap (λ rest. character l.code l.tag ∷ rest) (inside_items ls)

inside_columns : {S : Type 0} (ls : List (Letter S)) → following_columns (map (λ l. mark l inside) ls) ≡ letters_columns
    ls
inside_columns [] = refl
inside_columns (l ∷ ls) = let rest = inside_columns ls in omega (arith, rest)

pub unit_columns : {S : Type 0} (space : Option S) (ls : List (Letter S)) (l : Letter S)
    → following_columns (marked (opens space) inside (l ∷ ls)) ≡ space_columns space + letters_columns (l ∷ ls)
unit_columns None ls l = let rest = inside_columns ls in omega (arith, rest)
unit_columns (Some tag) ls l = let rest = inside_columns ls in omega (arith, rest)

pub unit_items : {S : Type 0} (line : List (Mark S)) (space : Option S) (l : Letter S) (ls : List (Letter S))
    → after_items line (marked (opens space) inside (l ∷ ls)) ≡ space_after (marks_items line) space ++ letter_items
    (l ∷ ls)
unit_items [] space l ls = ap (λ rest. character l.code l.tag ∷ rest) (inside_items ls)
unit_items (n ∷ ns) None l ls = ap (λ rest. character l.code l.tag ∷ rest) (inside_items ls)
unit_items (n ∷ ns) (Some tag) l ls = ap (λ rest. character 0x20 tag ∷ character l.code l.tag ∷ rest) (inside_items ls)

-- ---- letters without gaps

gapless_items : {S : Type 0} (j : Joint S) → gap j ≡ 0 → gap_items j ≡ []
gapless_items (opens (Some tag)) h = absurd (omega (arith, h))
gapless_items (opens None) h = refl
gapless_items starts h = refl
gapless_items inside h = refl
gapless_items cuttable h = refl

pub lone_items : {S : Type 0} (line : List (Mark S)) (m : Mark S) → gap m.joint ≡ 0
    → after_items line (m ∷ []) ≡ character m.letter.code m.letter.tag ∷ []
lone_items [] m h = refl
lone_items (n ∷ ns) m h = ap (λ front. front ++ character m.letter.code m.letter.tag ∷ []) (gapless_items m.joint h)

pub lone_columns : {S : Type 0} (m : Mark S) → gap m.joint ≡ 0 → following_columns (m ∷ []) ≡ 0 + width_of m.letter.code
lone_columns m h = omega (arith, h)

cuttable_gapless : {S : Type 0} (ls : List (Letter S)) → AreGapless (map (λ l. mark l cuttable) ls)
cuttable_gapless [] = tt
cuttable_gapless (l ∷ ls) = (refl, cuttable_gapless ls)

cuttable_shown : {S : Type 0} (ls : List (Letter S)) → map (λ (m : Mark S). character m.letter.code m.letter.tag)
    (map (λ l. mark l cuttable) ls) ≡ letter_items ls
cuttable_shown [] = refl
cuttable_shown (l ∷ ls) = ap (λ rest. character l.code l.tag ∷ rest) (cuttable_shown ls)

pub cut_shows : {S : Type 0} (l : Letter S) (ls : List (Letter S)) → ShowsAs (marked starts cuttable (l ∷ ls))
    (letter_items (l ∷ ls))
cut_shows l ls = record {
  gapless = (refl, cuttable_gapless ls);
  shown = ap (λ rest. character l.code l.tag ∷ rest)
      (cuttable_shown ls);
}

-- ---- a character's columns

pub columns_read : (x w : ℕ) (o : Option ℕ) → o ≡ columns_of x → w ≡ unwrap_or o 0 → w ≡ width_of x
unfolding width_of
columns_read x w o eo ew = ew ∙ ap (λ p. unwrap_or p 0) eo
