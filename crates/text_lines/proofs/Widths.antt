-- A text takes at most as many columns as it has bytes.
use Rattle.std.proofs.Common.{◌≡◌, ◌+◌, ◌<◌, ◌≤◌, if◌then◌else◌, [], ◌∷◌, ◌++◌, ◌∙◌, Bool, List, ap, arith, cond, false}
use Rattle.std.proofs.Common.{get_or, inr, leb, length, length-append, ltb, min, refl, subst, suc, take, true, zero, ℕ}
use Rattle.std.specs.Prelude.{Option, None, Some, IfSome, unwrap_or}
use Rattle.std.specs.Option.{option_map}
use Rattle.std.specs.Char.{len_utf8}
use Rattle.std.specs.Str.{chars, IsUtf8, IsAscii}
use Rattle.std.proofs.lemmas.Str.{length-encode, encodes-chars, chars-IsAscii}
use Rattle.std.proofs.lemmas.List.Sums.{sum_by-cons, sum_by_more, sum_by_more_le}
use Rattle.std.proofs.lemmas.List.{take_all, length_push}
use Rattle.std.proofs.lemmas.Bool.Decides.{nat_tests}
use Rattle.unicode_width.specs.Width.{char_width, alone}
use Rattle.text_lines.specs.Columns.{columns_of, columns_of-at_most_two, columns_of-one, is_border, text_columns}
use Rattle.text_lines.specs.Columns.{width_of}
use lib.Utf8.{encodes, encode}

most_of : (o : Option ℕ) (m : ℕ) → IfSome o (λ n. n ≤ m) → unwrap_or o 0 ≤ m
most_of None m h = omega arith
most_of (Some n) m h = h

two_at_most : (c : ℕ) → width_of c ≤ 2
unfolding width_of
two_at_most c = most_of (columns_of c) 2 (columns_of-at_most_two c)

ascii_width : (a b d : Bool) (o : Option ℕ) → d ≡ false
    → IfSome (if a then (if b then Some 1 else None) else (if d then o else None)) (λ n. n ≤ 1)
ascii_width true true d o h = omega arith
ascii_width true false d o h = tt
ascii_width false b true o h = cc
ascii_width false b false o h = tt

not_high : (c : ℕ) → c < 128 → leb 0xA0 c ≡ false
not_high c h = grind (arith, nat_tests)

narrow : (b : Bool) (o : Option ℕ) → IfSome o (λ n. n ≤ 1)
    → unwrap_or (if b then Some 1 else option_map (λ n. min n 2) o) 0 ≤ 1
narrow true o h = omega arith
narrow false None h = omega arith
narrow false (Some n) h = omega arith

ascii_char : (c : ℕ) → c < 128 → IfSome (char_width false c) (λ n. n ≤ 1)
unfolding char_width
ascii_char c h = ascii_width (ltb c 0x7F) (leb 0x20 c) (leb 0xA0 c) (Some (alone false c).0) (not_high c h)

one_at_most : (c : ℕ) → c < 128 → width_of c ≤ 1
unfolding width_of columns_of
one_at_most c h = narrow (is_border c) (char_width false c) (ascii_char c h)

by_bytes : (a b d : Bool) (w : ℕ) → (a ≡ true → w ≤ 1) → w ≤ 2 → w ≤ cond a 1 (cond b 2 (cond d 3 4))
by_bytes true b d w low two = low refl
by_bytes false true d w low two = two
by_bytes false false true w low two = omega arith
by_bytes false false false w low two = omega arith

low_test : (c : ℕ) → ltb c 0x80 ≡ true → c < 128
low_test c h = grind (arith, nat_tests)

pub width_of-le-bytes : (c : ℕ) → width_of c ≤ len_utf8 c
width_of-le-bytes c =
    by_bytes (ltb c 0x80) (ltb c 0x800) (ltb c 0x1_0000) (width_of c) (λ h. one_at_most c (low_test c h))
    (two_at_most c)

encodes_columns : (cs : List ℕ) → text_columns cs ≤ length (encodes cs)
encodes_columns [] = omega arith
encodes_columns (c ∷ cs) =
    let rest = encodes_columns cs in
    let one = width_of-le-bytes c in
    omega (arith, rest, one, sum_by-cons width_of c cs, length-append (encode c) (encodes cs), length-encode c)

pub columns-le-bytes : (bs : List ℕ) → IsUtf8 bs → text_columns (chars bs) ≤ length bs
columns-le-bytes bs utf8 = omega (arith, encodes_columns (chars bs), ap length (encodes-chars bs utf8))

width_of-columns_of : (x w : ℕ) (o : Option ℕ) → o ≡ columns_of x → w ≡ unwrap_or o 0 → w ≡ width_of x
unfolding width_of
width_of-columns_of x w o eo ew = ew ∙ ap (λ p. unwrap_or p 0) eo

-- a text of one character
pub one_counted : (x w : ℕ) (o : Option ℕ) → o ≡ columns_of x → w ≡ unwrap_or o 0 → w ≡ text_columns (x ∷ [])
one_counted x w o eo ew = let width = width_of-columns_of x w o eo ew in omega (arith, width, sum_by-cons width_of x [])

-- one more character, in a loop that has counted the first n
pub one_more : (cs seen : List ℕ) (x w columns : ℕ) (o : Option ℕ)
    → (length seen < length cs) × (x ≡ get_or cs (length seen) x) → columns ≡ text_columns (take (length seen) cs)
    → o ≡ columns_of x → w ≡ unwrap_or o 0 → (columns + w ≡ text_columns (take (length (seen ++ x ∷ [])) cs))
    × (columns + w ≤ text_columns cs)
one_more cs seen x w columns o at so_far eo ew =
    let width = width_of-columns_of x w o eo ew in
    let here = ap width_of at.1 in
    let inside : length seen < length cs = at.0 in
    let more = sum_by_more width_of cs (length seen) x inside in
    let most = sum_by_more_le width_of cs (length seen) x inside in
    (rw length_push (omega (arith, width, here, more, so_far)), omega (arith, width, here, most, so_far))

pub all_counted : (cs seen : List ℕ) (columns : ℕ) → length seen ≡ length cs → columns ≡ text_columns
    (take (length seen) cs) → columns ≡ text_columns cs
all_counted cs seen columns all so_far = so_far ∙ ap text_columns (take_all (length seen) cs (omega (arith, all)))

-- ---- printable ASCII

one_column : (c : ℕ) → (0x20 ≤ c) × (c ≤ 0x7E) → width_of c ≡ 1
unfolding width_of
one_column c h = ap (λ o. unwrap_or o 0) (columns_of-one c (inr h))

printable_columns : (bs : List ℕ) → ((k : ℕ) → k < length bs → (0x20 ≤ get_or bs k 0) × (get_or bs k 0 ≤ 0x7E))
    → text_columns bs ≡ length bs
printable_columns [] h = refl
printable_columns (b ∷ bs) h =
    let one = one_column b (h 0 (omega arith)) in
    let rest = printable_columns bs (λ k inside. h (suc k) (omega (arith, inside))) in
    omega (arith, one, rest, sum_by-cons width_of b bs)

printable_ascii : (bs : List ℕ) → ((k : ℕ) → k < length bs → (0x20 ≤ get_or bs k 0) × (get_or bs k 0 ≤ 0x7E))
    → IsAscii bs
printable_ascii [] h i = omega arith
printable_ascii (b ∷ bs) h zero = let most = h 0 (omega arith) in omega (arith, most)
printable_ascii (b ∷ bs) h (suc i) = printable_ascii bs (λ k inside. h (suc k) (omega (arith, inside))) i

pub printable_counted : (bs all : List ℕ) → all ≡ bs
    → ((k : ℕ) → k < length all → (0x20 ≤ get_or all k 0) × (get_or all k 0 ≤ 0x7E))
    → text_columns (chars bs) ≡ length bs
printable_counted bs all same h =
    let whole = ap text_columns (chars-IsAscii all (printable_ascii all h)) ∙ printable_columns all h in
    subst (λ xs. text_columns (chars xs) ≡ length xs) same whole
