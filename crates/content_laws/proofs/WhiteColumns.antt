-- White space has either no width or some columns.
use Rattle.std.proofs.Common.{◌≡◌, ◌+◌, ◌<◌, ◌≤◌, ◌⊎◌, ◌==◌, ◌&&◌, ◌||◌, Bool, arith, false, inl, inr, is_some}
use Rattle.std.proofs.Common.{nat_lt, not, refl, subst, suc, true, zero, ℕ}
use Rattle.std.specs.Char.{is_whitespace}
use Rattle.std.proofs.lemmas.Bool.Decides.{nat_tests}
use Rattle.unicode_width.proofs.Computing.{unicode_width}
use Rattle.text_lines.specs.Columns.{columns_of, width_of}
use Rattle.text_pieces.specs.Sources.{is_white_space}

abbrev is_none_or_some : ℕ → Bool
is_none_or_some c = not (is_some (columns_of c)) || nat_lt 0 (width_of c)

abbrev IsNoneOrSome : ℕ → Type 0
IsNoneOrSome c = is_none_or_some c ≡ true

-- numbers from the first on
abbrev EachFrom : (ℕ → Type 0) → ℕ → ℕ → Type 0
EachFrom P a zero = Unit {0}
EachFrom P a (suc n) = P a × EachFrom P (a + 1) n

by_first : (P : ℕ → Type 0) (a c : ℕ) → P a → (a + 1 ≤ c → P c) → (a ≡ c) ⊎ (a + 1 ≤ c) → P c
by_first P a c first rest (inl e) = subst P e first
by_first P a c first rest (inr le) = rest le

first_or_rest : (a c : ℕ) → a ≤ c → (a ≡ c) ⊎ (a + 1 ≤ c)
first_or_rest a c le = grind arith

from_each : (P : ℕ → Type 0) (n a c : ℕ) → a ≤ c → c < a + n → EachFrom P a n → P c
from_each P zero a c low high each = absurd (omega arith)
from_each P (suc n) a c low high each =
    by_first P a c each.0 (λ le. from_each P n (a + 1) c le (omega arith) each.1) (first_or_rest a c low)

line_ends : EachFrom IsNoneOrSome 9 5
unfolding columns_of width_of unicode_width
line_ends = (refl, (refl, (refl, (refl, (refl, tt)))))

quads : EachFrom IsNoneOrSome 0x2000 11
unfolding columns_of width_of unicode_width
quads = (refl, (refl, (refl, (refl, (refl, (refl, (refl, (refl, (refl, (refl, (refl, tt)))))))))))

either : (P : Type 0) (a b : Bool) → (a || b) ≡ true → (a ≡ true → P) → (b ≡ true → P) → P
either P true b e first second = first refl
either P false b e first second = second e

within : (low high c : ℕ) → (nat_lt low c && nat_lt c high) ≡ true → (low + 1 ≤ c) × (c < high)
within low high c e = (grind (arith, nat_tests), grind (arith, nat_tests))

at : (c n : ℕ) → is_none_or_some n ≡ true → (c == n) ≡ true → is_none_or_some c ≡ true
at c n is e = let same : n ≡ c = grind (arith, nat_tests) in subst IsNoneOrSome same is

by_whitespace : (c : ℕ) → is_whitespace c ≡ true → is_none_or_some c ≡ true
unfolding columns_of width_of unicode_width
by_whitespace c e =
    let P : Type 0 = is_none_or_some c ≡ true in
    either P _ _ e (λ e. either P _ _ e (λ e. either P _ _ e (λ e. either P _ _ e (λ e. either P _ _ e
    (λ e. either P _ _ e (λ e. either P _ _ e (λ e. either P _ _ e (λ e. either P _ _ e (λ e. either P _ _ e
    (λ e. let l = within 8 14 c e in from_each IsNoneOrSome 5 9 c l.0 l.1 line_ends)
    (at c 32 refl)) (at c 133 refl)) (at c 160 refl)) (at c 5760 refl))
    (λ e. let l = within 8191 8203 c e in from_each IsNoneOrSome 11 8192 c l.0 l.1 quads))
    (at c 8232 refl)) (at c 8233 refl)) (at c 8239 refl)) (at c 8287 refl)) (at c 12288 refl)

both : (a b : Bool) → (a && b) ≡ true → a ≡ true
both true b e = refl
both false b e = cc

or_fact : (a b : Bool) → (not a || b) ≡ true → a ≡ true → b ≡ true
or_fact true b e is = e
or_fact false b e is = cc

-- where it has a width, it has columns
pub white_columns : (c : ℕ) → is_white_space c ≡ true → is_some (columns_of c) ≡ true → 1 ≤ width_of c
white_columns c white wide =
    let some : nat_lt 0 (width_of c) ≡ true =
    or_fact (is_some (columns_of c)) (nat_lt 0 (width_of c)) (by_whitespace c (both (is_whitespace c) _ white)) wide in
    grind (arith, nat_tests)
