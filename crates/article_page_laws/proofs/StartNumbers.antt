-- The first number of a list is read back from its attribute.
use Rattle.std.proofs.Common.{◌≡◌, ◌-◌, ◌==◌, ◌&&◌, ◌<◌, ◌≤◌, ◌^◌, [], ◌∷◌, if◌then◌else◌, ◌∙◌, Bool, List, None, Some}
use Rattle.std.proofs.Common.{ap, arith, false, length, negsuc, pos, refl, suc, true, ℕ, ℤ}
use Rattle.std.proofs.lemmas.Bool.Decides.{nat_tests}
use Rattle.std.proofs.lemmas.Fmt.{decimal_is_IsNumeral, digits_decimal}
use Rattle.std.proofs.lemmas.Str.Parse.{IsNumeralModel, numerals_by_value, tells_all_ascii_digits}
use Rattle.std.specs.Prelude.{unwrap_or}
use Rattle.std.specs.Bool.{nat_le}
use Rattle.std.specs.Fmt.{decimal, signed_decimal}
use Rattle.std.specs.Int.Signed.{mag}
use Rattle.std.specs.Str.{all_ascii_digits}
use Rattle.std.specs.Str.Parse.{digits_value}
use Rattle.tree_forest.specs.Forest.{is_in}
use Rattle.render_conversion.specs.Numbers.{negative, positive, read_digits, signed_of, start_of}
use Rattle.article_writing.proofs.Accepted.{decimal_without}

own : IsNumeralModel (λ ds. all_ascii_digits ds ≡ true) (digits_value 10)
own = numerals_by_value _ tells_all_ascii_digits

at_most : (n m : ℕ) → n ≤ m → nat_le n m ≡ true
at_most n m h = grind (arith, nat_tests)

read_some : (most n : ℕ) (ds : List ℕ) → all_ascii_digits ds ≡ true → 0 < length ds → digits_value 10 ds ≡ n →
    n ≤ most → read_digits most ds ≡ Some n
read_some most n [] digits filled e h = absurd (omega (arith, filled))
read_some most n (c ∷ cs) digits filled e h =
    by (all_ascii_digits (c ∷ cs)) (nat_le (digits_value 10 (c ∷ cs)) most) digits
    (ap (λ m. nat_le m most) e ∙ at_most n most h)
  where
    by : (a b : Bool) → a ≡ true → b ≡ true →
        (if a && b then Some (digits_value 10 (c ∷ cs)) else None) ≡ Some n
    by true true p q = ap Some e
    by true false p q = cc
    by false b p q = cc

narrow : (n : ℕ) → n ≤ 2 ^ 63 → n < 2 ^ 64
narrow n h = omega (arith, h)

decimal_read : (most n : ℕ) → n ≤ most → n ≤ 2 ^ 63 → read_digits most (decimal n) ≡ Some n
decimal_read most n h fits =
    let numeral = decimal_is_IsNumeral n (narrow n fits) in
    read_some most n (decimal n) (digits_decimal own n (narrow n fits)) numeral.0.0 numeral.1 h

-- no sign stands before it
first_differs : (sign c : ℕ) (cs : List ℕ) → is_in sign (c ∷ cs) ≡ false → (c == sign) ≡ false
first_differs sign c cs h = by (c == sign) (sign == c) (is_in sign cs) same h
  where
    same : (sign == c) ≡ false → (c == sign) ≡ false
    same k = grind (arith, nat_tests)

    by : (a b rest : Bool) → (b ≡ false → a ≡ false) → (if b then true else rest) ≡ false → a ≡ false
    by a true rest k e = cc
    by a false rest k e = k refl

unsigned_read : (cs : List ℕ) → is_in 45 cs ≡ false → is_in 43 cs ≡ false →
    signed_of cs ≡ positive (read_digits (2 ^ 63 - 1) cs)
unsigned_read [] minus plus = refl
unsigned_read (c ∷ cs) minus plus =
    by (c == 45) (c == 43) (first_differs 45 c cs minus) (first_differs 43 c cs plus)
  where
    by : (a b : Bool) → a ≡ false → b ≡ false →
        (if a then negative (read_digits (2 ^ 63) cs)
        else if b then positive (read_digits (2 ^ 63 - 1) cs) else positive (read_digits (2 ^ 63 - 1) (c ∷ cs)))
        ≡ positive (read_digits (2 ^ 63 - 1) (c ∷ cs))
    by true b p q = cc
    by false true p q = cc
    by false false p q = refl

below : (n : ℕ) → n < 2 ^ 63 → n ≤ 2 ^ 63 - 1
below n h = omega (arith, h)

below_or_at : (n : ℕ) → n < 2 ^ 63 → n ≤ 2 ^ 63
below_or_at n h = omega (arith, h)

one_more : (n : ℕ) → n < 2 ^ 63 → suc n ≤ 2 ^ 63
one_more n h = omega (arith, h)

signed_read : (z : ℤ) → mag z < 2 ^ 63 → signed_of (signed_decimal z) ≡ Some z
signed_read (pos n) h = unsigned_read (decimal n) (decimal_without 45 refl n) (decimal_without 43 refl n)
    ∙ ap positive (decimal_read (2 ^ 63 - 1) n (below n h) (below_or_at n h))
signed_read (negsuc n) h = ap negative (decimal_read (2 ^ 63) (suc n) (one_more n h) (one_more n h))

pub start_read : (first : ℤ) → mag first < 2 ^ 63 → start_of (Some (signed_decimal first)) ≡ first
start_read first h = ap (λ read. unwrap_or read (pos 1)) (signed_read first h)
