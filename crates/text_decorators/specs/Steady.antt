-- The prefixes of the three decorators are steady.
use Rattle.std.specs.Prelude.{◌≡◌, ◌+◌, ◌/◌, ◌%◌, ◌<◌, ◌≤◌, ◌^◌, ◌≤ℤ◌, ◌⊎◌, [], ◌∷◌, ◌++◌, FitsSigned, List, Option}
use Rattle.std.specs.Prelude.{codes, length, max, negsuc, pos, refl, suc, unwrap_or, ℕ, ℤ}
use Rattle.std.specs.Fmt.{decimal, signed_decimal}
use Rattle.std.specs.Int.{w64}
use Rattle.std.proofs.Common.{arith, ap, ◌∙◌, inl, inr, length-append}
use Rattle.std.proofs.lemmas.Bool.{cases_lt}
use Rattle.std.proofs.lemmas.Fmt.{decimal_by_steps, decimal_digit, decimal_step}
use Rattle.std.proofs.lemmas.Int.{ints}
use Rattle.std.proofs.lemmas.List.Sums.{sum_by-append}
use Rattle.text_lines.specs.Columns.{width_of, text_columns, columns_of-one}
use Rattle.text_decorators.specs.Marks.{Mark, IsSteady, ordered_item}
use Rattle.text_decorators.specs.Texts.{plain_text, trivial_text, rich_text}
use lib.Signed.{mag}

one_column : (c : ℕ) → 0x20 ≤ c → c ≤ 0x7E → text_columns (c ∷ []) ≡ 1
unfolding width_of
one_column c low high = ap (λ (o : Option ℕ). 0 + unwrap_or o 0) (columns_of-one c (inr (low, high)))

columns_of_both : (xs ys : List ℕ) → text_columns (xs ++ ys) ≡ text_columns xs + text_columns ys
columns_of_both xs ys = sum_by-append width_of xs ys

digits_columns : (n : ℕ) → n < 2 ^ 64 → text_columns (decimal n) ≡ length (decimal n)
digits_columns = decimal_by_steps (λ n ds. text_columns ds ≡ length ds)
    (λ n small. one_column (48 + n) (omega arith) (omega arith))
    (λ n ds large before. columns_of_both ds ((48 + n % 10) ∷ [])
    ∙ omega (
      arith,
      before,
      one_column (48 + n % 10) (omega arith) (omega arith),
      length-append ds ((48 + n % 10) ∷ []),
    ))

one_digit_length : (n : ℕ) → n < 10 → length (decimal n) ≡ 1
one_digit_length n small = ap length (decimal_digit n small)

more_digits_length : (n : ℕ) → 10 ≤ n → n < 2 ^ 64 → length (decimal n) ≡ length (decimal (n / 10)) + 1
more_digits_length n large fits = ap length (decimal_step n large fits)
    ∙ length-append (decimal (n / 10)) ((48 + n % 10) ∷ [])

no_longer_by_cases : (n m : ℕ) (ds : List ℕ) → (n < 10) ⊎ (10 ≤ n)
    → ((k : ℕ) → k ≤ m / 10 → k < 2 ^ 64 → length (decimal k) ≤ length ds) → n ≤ m → n < 2 ^ 64
    → length (decimal n) ≤ length ds + 1
no_longer_by_cases n m ds (inl small) before below fits = omega (arith, one_digit_length n small)
no_longer_by_cases n m ds (inr large) before below fits =
    let front : length (decimal (n / 10)) ≤ length ds = before (n / 10) (omega arith) (omega arith) in
    omega (arith, more_digits_length n large fits, front)

no_longer_than : (m : ℕ) → m < 2 ^ 64 → (n : ℕ) → n ≤ m → n < 2 ^ 64 → length (decimal n) ≤ length (decimal m)
no_longer_than = decimal_by_steps (λ m ds. (n : ℕ) → n ≤ m → n < 2 ^ 64 → length (decimal n) ≤ length ds)
    (λ m small n below fits. omega (arith, one_digit_length n (omega arith)))
    (λ m ds large before n below fits.
    omega (arith, no_longer_by_cases n m ds (cases_lt n 10) before below fits, length-append ds ((48 + m % 10) ∷ [])))

-- the columns of a number with its sign
signed_columns : (z : ℤ) → mag z < 2 ^ 63 → text_columns (signed_decimal z) ≡ length (signed_decimal z)
signed_columns (pos n) fits = digits_columns n (omega arith)
signed_columns (negsuc n) fits = columns_of_both (45 ∷ []) (decimal (suc n))
    ∙ omega (arith, one_column 45 (omega arith) (omega arith), digits_columns (suc n) (omega arith))

prefix_columns : (z : ℤ) → mag z < 2 ^ 63
    → text_columns (signed_decimal z ++ codes ". ") ≡ length (signed_decimal z) + text_columns (codes ". ")
prefix_columns z fits = columns_of_both (signed_decimal z) (codes ". ")
    ∙ ap (λ (k : ℕ). k + text_columns (codes ". ")) (signed_columns z fits)

between : (i j k : ℤ) → FitsSigned w64 i → FitsSigned w64 k → i ≤ℤ j → j ≤ℤ k → mag j < 2 ^ 63
between i (pos b) (pos c) low high first second = omega (arith, ints)
between i (pos b) (negsuc c) low high first second = absurd (omega (arith, ints))
between (pos a) (negsuc b) k low high first second = absurd (omega (arith, ints))
between (negsuc a) (negsuc b) k low high first second = omega (arith, ints)

ends_are_longest : (i j k : ℤ) → mag i < 2 ^ 63 → mag j < 2 ^ 63 → mag k < 2 ^ 63 → i ≤ℤ j → j ≤ℤ k
    → length (signed_decimal j) ≤ max (length (signed_decimal i)) (length (signed_decimal k))
ends_are_longest i (pos b) (pos c) low middle high first second =
    omega (arith, no_longer_than c (omega arith) b (omega (arith, ints)) (omega arith))
ends_are_longest i (pos b) (negsuc c) low middle high first second = absurd (omega (arith, ints))
ends_are_longest (pos a) (negsuc b) k low middle high first second = absurd (omega (arith, ints))
ends_are_longest (negsuc a) (negsuc b) k low middle high first second =
    omega (arith, no_longer_than (suc a) (omega arith) (suc b) (omega (arith, ints)) (omega arith))

fits_magnitude : (z : ℤ) → FitsSigned w64 z → mag z < 2 ^ 63
fits_magnitude (pos n) fits = omega (arith, ints)
fits_magnitude (negsuc n) fits = omega (arith, ints)

numbers_are_steady : (i j k : ℤ) → FitsSigned w64 i → FitsSigned w64 k → i ≤ℤ j → j ≤ℤ k
    → text_columns (signed_decimal j ++ codes ". ") ≤ max (text_columns (signed_decimal i ++ codes ". "))
    (text_columns (signed_decimal k ++ codes ". "))
numbers_are_steady i j k low high first second =
    let middle : mag j < 2 ^ 63 = between i j k low high first second in
    let start : mag i < 2 ^ 63 = fits_magnitude i low in
    let end : mag k < 2 ^ 63 = fits_magnitude k high in
    omega (
      arith,
      prefix_columns i start,
      prefix_columns j middle,
      prefix_columns k end,
      ends_are_longest i j k start middle end first second,
    )

-- marks that number an item by its number, a dot and a space
numbered_is_steady : (text : Mark → List ℕ) → ((z : ℤ) → text (ordered_item z) ≡ signed_decimal z ++ codes ". ")
    → IsSteady {H = Unit {0}} (λ h m. text m)
numbered_is_steady text numbers = record {
  alone = λ h k m prefix. refl;
  ends_are_widest = λ h i j k low high first second.
      omega (
        arith,
        numbers_are_steady i j k low high first second,
        ap text_columns (numbers i),
        ap text_columns (numbers j),
        ap text_columns (numbers k),
      );
}

-- marks that do not number items
unnumbered_is_steady : (text : Mark → List ℕ) → ((z : ℤ) → text (ordered_item z) ≡ [])
    → IsSteady {H = Unit {0}} (λ h m. text m)
unnumbered_is_steady text none = record {
  alone = λ h k m prefix. refl;
  ends_are_widest = λ h i j k low high first second. omega (arith, ap text_columns (none j));
}

pub plain_is_steady : IsSteady {H = Unit {0}} (λ h m. plain_text m)
plain_is_steady = numbered_is_steady plain_text (λ z. refl)

pub trivial_is_steady : IsSteady {H = Unit {0}} (λ h m. trivial_text m)
trivial_is_steady = unnumbered_is_steady trivial_text (λ z. refl)

pub rich_is_steady : IsSteady {H = Unit {0}} (λ h m. rich_text m)
rich_is_steady = numbered_is_steady rich_text (λ z. refl)
