-- Numbers of items lie between those of the first and of the last, and prefixes are filled up to their columns.
use Rattle.std.proofs.Common.{◌≡◌, ◌-◌, ◌*◌, ◌^◌, ◌≤◌, ◌⊎◌, ◌+ℤ◌, ◌≤ℤ◌, Bool, List, ap, arith, false, inl, inr, negsuc}
use Rattle.std.proofs.Common.{pos, refl, suc, true, ℕ, ℤ}
use Rattle.std.specs.Prelude.{FitsSigned, min, nat_le, unwrap_or}
use Rattle.std.specs.Int.{w64, saturate_signed}
use Rattle.std.proofs.lemmas.Bool.Decides.{nat_tests}
use Rattle.std.proofs.lemmas.Int.{ints}
use Rattle.std.proofs.lemmas.List.Folds.{sum_by-replicate}
use Rattle.std.proofs.lemmas.List.Sums.{sum_by-append}
use Rattle.text_lines.specs.Columns.{columns_of-one, text_columns, width_of}
use Rattle.layout_state.specs.Items.{number_after, padded, spaces}

-- ---- columns of spaces

space_is_one : width_of 0x20 ≡ 1
unfolding width_of
space_is_one = ap (λ o. unwrap_or o 0) (columns_of-one 0x20 (inr (omega arith, omega arith)))

spaces_are : (n : ℕ) → text_columns (spaces n) ≡ n
spaces_are n = omega (arith, sum_by-replicate width_of n 0x20, ap (λ (k : ℕ). n * k) space_is_one)

pub spaces_fit : (n : ℕ) → text_columns (spaces n) ≤ n
spaces_fit n = omega (arith, spaces_are n)

pub padded_fits : (n : ℕ) (cs : List ℕ) → text_columns cs ≤ n → text_columns (padded n cs) ≤ n
padded_fits n cs le = omega (
  arith,
  sum_by-append width_of cs (spaces (n - text_columns cs)),
  spaces_are (n - text_columns cs),
  le,
)

-- ---- numbers

-- the greatest of 64 bits
abbrev top : ℤ
top = pos (2 ^ 63 - 1)

abbrev Saturates : ℤ → ℤ → Type 0
Saturates y z = (z ≡ y) ⊎ ((z ≡ top) × (top ≤ℤ y))

saturates : (y : ℤ) → negsuc (2 ^ 63 - 1) ≤ℤ y → Saturates y (saturate_signed w64 y)
saturates (pos n) low = by_test (nat_le n (2 ^ 63 - 1)) refl
  where
    by_test : (t : Bool) → nat_le n (2 ^ 63 - 1) ≡ t → Saturates (pos n) (pos (min n (2 ^ 63 - 1)))
    by_test true h = inl (ap pos (grind (arith, nat_tests)))
    by_test false h =
        let large : 2 ^ 63 - 1 ≤ n = grind (arith, nat_tests) in
        inr (ap pos (omega (arith, large)), omega (arith, ints, large))
saturates (negsuc n) low = let small : n ≤ 2 ^ 63 - 1 = omega (arith, ints, low) in
    inl (ap negsuc (omega (arith, small)))

pub number_fits : (z : ℤ) (n : ℕ) → FitsSigned w64 (number_after z n)
number_fits z n = fits (z +ℤ pos n)
  where
    fits : (y : ℤ) → FitsSigned w64 (saturate_signed w64 y)
    fits (pos k) = record { sfits = omega arith }
    fits (negsuc k) = record { sfits = omega arith }

after_is : (z : ℤ) (n : ℕ) → FitsSigned w64 z → Saturates (z +ℤ pos n) (number_after z n)
after_is z n fits = saturates (z +ℤ pos n) (omega (arith, ints, fits))

-- as many items fit from one number on up to the last one
abbrev pub Reaches : ℤ → ℕ → ℤ → Type 0
Reaches z items last = ((z +ℤ pos items) ≤ℤ (last +ℤ pos 1)) ⊎ (last ≡ top)

pub first_reaches : (z : ℤ) (items : ℕ) → FitsSigned w64 z → Reaches z items (number_after z (items - 1))
first_reaches z items fits = by_end (number_after z (items - 1)) (after_is z (items - 1) fits)
  where
    by_end : (last : ℤ) → Saturates (z +ℤ pos (items - 1)) last → Reaches z items last
    by_end last (inl e) = inl (omega (arith, ints, e))
    by_end last (inr e) = inr e.0

pub next_reaches : (z last : ℤ) (items : ℕ) → FitsSigned w64 z → Reaches z (suc items) last
    → Reaches (number_after z 1) items last
next_reaches z last items fits reaches = by_end (number_after z 1) (after_is z 1 fits) reaches
  where
    by_end : (next : ℤ) → Saturates (z +ℤ pos 1) next → Reaches z (suc items) last → Reaches next items last
    by_end next (inl e) (inl h) = inl (omega (arith, ints, e, h))
    by_end next (inr e) (inl h) = inl (omega (arith, ints, e.0, e.1, h))
    by_end next after (inr e) = inr e

pub next_above : (first z : ℤ) → FitsSigned w64 z → first ≤ℤ z → first ≤ℤ number_after z 1
next_above first z fits above = by_end (number_after z 1) (after_is z 1 fits)
  where
    by_end : (next : ℤ) → Saturates (z +ℤ pos 1) next → first ≤ℤ next
    by_end next (inl e) = omega (arith, ints, e, above)
    by_end next (inr e) = omega (arith, ints, e.0, above, fits)

pub up_to_last : (z last : ℤ) (items : ℕ) → FitsSigned w64 z → Reaches z (suc items) last → z ≤ℤ last
up_to_last z last items fits (inl h) = omega (arith, ints, h)
up_to_last z last items fits (inr e) = omega (arith, ints, e, fits)
