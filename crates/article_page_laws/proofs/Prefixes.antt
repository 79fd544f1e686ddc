-- The columns of what stands before headings and items are as many as its characters.
use Rattle.std.proofs.Common.{◌≡◌, ◌+◌, ◌/◌, ◌%◌, ◌<◌, ◌≤◌, [], ◌∷◌, ◌++◌, if◌then◌else◌, ◌∙◌, Bool, List, None, Option}
use Rattle.std.proofs.Common.{Some, ap, arith, codes, false, inr, length, length-append, negsuc, pos, refl, replicate}
use Rattle.std.proofs.Common.{suc, true, zero, ℕ, ℤ}
use Rattle.std.specs.Fmt.{decimal, digit_glyph, digits, digits_onto, signed_decimal}
use Rattle.std.specs.Prelude.{◌==◌, unwrap_or}
use Rattle.std.proofs.lemmas.Bool.Decides.{nat_tests}
use Rattle.std.proofs.lemmas.List.{length-replicate}
use Rattle.std.proofs.lemmas.List.Sums.{sum_by-append, sum_by-cons}
use Rattle.article_definitions.specs.Layouts.{item_prefix, quote_prefix}
use Rattle.text_lines.specs.Columns.{columns_of-one, text_columns, width_of}

pub both : {A B C : Type 0} (f : A → B → C) {a c : A} {b d : B} → a ≡ c → b ≡ d → f a b ≡ f c d
both f {a} {c} {b} {d} e h = ap (λ x. f x b) e ∙ ap (f c) h

-- each character has one column
abbrev pub IsPlain : List ℕ → Type 0
IsPlain cs = text_columns cs ≡ length cs

one_column : (c : ℕ) → 0x20 ≤ c → c ≤ 0x7E → width_of c ≡ 1
unfolding width_of
one_column c low high = ap (λ (o : Option ℕ). unwrap_or o 0) (columns_of-one c (inr (low, high)))

plain_first : (c : ℕ) (cs : List ℕ) → 0x20 ≤ c → c ≤ 0x7E → IsPlain cs → IsPlain (c ∷ cs)
plain_first c cs low high rest = sum_by-cons width_of c cs ∙ omega (arith, rest, one_column c low high)

pub plain_both : (xs ys : List ℕ) → IsPlain xs → IsPlain ys → IsPlain (xs ++ ys)
plain_both xs ys first second =
    sum_by-append width_of xs ys ∙ omega (arith, first, second, length-append xs ys)

plain_repeated : (c n : ℕ) → 0x20 ≤ c → c ≤ 0x7E → IsPlain (replicate n c)
plain_repeated c zero low high = refl
plain_repeated c (suc n) low high = plain_first c (replicate n c) low high (plain_repeated c n low high)

-- ---- digits

glyph_of : (d : ℕ) → d < 10 → digit_glyph false d ≡ 48 + d
glyph_of d small = grind (arith, nat_tests)

plain_digit : (n : ℕ) (rest : List ℕ) → IsPlain rest → IsPlain (digit_glyph false (n % 10) ∷ rest)
plain_digit n rest plain =
    let small : n % 10 < 10 = omega arith in
    let same = glyph_of (n % 10) small in
    plain_first (digit_glyph false (n % 10)) rest (omega (arith, same, small)) (omega (arith, same, small)) plain

plain_by : (last : Bool) (xs ys : List ℕ) → IsPlain xs → IsPlain ys → IsPlain (if last then xs else ys)
plain_by true xs ys first second = first
plain_by false xs ys first second = second

plain_digits : (k n : ℕ) (rest : List ℕ) → IsPlain rest → IsPlain (digits_onto k 10 false n rest)
plain_digits zero n rest plain = plain
plain_digits (suc k) n rest plain =
    let more = plain_digit n rest plain in
    plain_by (n / 10 == 0) (digit_glyph false (n % 10) ∷ rest)
    (digits_onto k 10 false (n / 10) (digit_glyph false (n % 10) ∷ rest)) more
    (plain_digits k (n / 10) (digit_glyph false (n % 10) ∷ rest) more)

plain_decimal : (n : ℕ) → IsPlain (decimal n)
unfolding digits
plain_decimal n = plain_digits 64 n [] refl

plain_number : (z : ℤ) → IsPlain (signed_decimal z)
plain_number (pos n) = plain_decimal n
plain_number (negsuc n) = plain_first 45 (decimal (suc n)) (omega arith) (omega arith) (plain_decimal (suc n))

-- ---- prefixes

plain_space : IsPlain (codes " ")
plain_space = plain_first 0x20 [] (omega arith) (omega arith) refl

plain_dot : IsPlain (codes ". ")
plain_dot = plain_first 0x2E (codes " ") (omega arith) (omega arith) plain_space

pub item_columns_are : (at : Option ℤ) → text_columns (item_prefix at) ≡ length (item_prefix at)
item_columns_are None = plain_first 0x2A (codes " ") (omega arith) (omega arith) plain_space
item_columns_are (Some z) = plain_both (signed_decimal z) (codes ". ") (plain_number z) plain_dot

pub heading_columns_are : (level : ℕ) → text_columns (replicate level 0x23 ++ codes " ") ≡ level + 1
heading_columns_are level =
    plain_both (replicate level 0x23) (codes " ") (plain_repeated 0x23 level (omega arith) (omega arith)) plain_space
    ∙ length-append (replicate level 0x23) (codes " ")
    ∙ ap (λ n. n + 1) (length-replicate level 0x23)

pub quote_columns_are : text_columns quote_prefix ≡ 2
quote_columns_are = plain_first 0x3E (codes " ") (omega arith) (omega arith) plain_space
