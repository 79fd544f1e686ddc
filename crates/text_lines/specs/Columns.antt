-- How many columns a character and a text take. Unicode Standard Annex #11 gives a character's width; a
-- text's columns are the sum over its characters.
use Rattle.std.specs.Prelude.{◌≡◌, ◌≤◌, ◌==◌, ◌||◌, ◌⊎◌, if◌then◌else◌, Bool, IfSome, IsTrue, List, None, Option, Some}
use Rattle.std.specs.Prelude.{false, min, refl, sum_by, true, unwrap_or, ℕ}
use Rattle.std.specs.Option.{option_map}
use Rattle.unicode_width.specs.Width.{char_width}
use Rattle.std.proofs.Common.{arith, ap, inl, inr}
use Rattle.std.proofs.lemmas.Bool.Decides.{nat_tests}

-- The characters that borders are made of: ─ ┬ ┴ ┼ │ ┤ ├ ┌ ┐ └ ┘ and /.
abbrev pub is_border : ℕ → Bool
is_border c =
    (c == 0x2500) || (c == 0x252C) || (c == 0x2534) || (c == 0x253C) || (c == 0x2502) || (c == 0x2524) ||
    (c == 0x251C) || (c == 0x250C) || (c == 0x2510) || (c == 0x2514) || (c == 0x2518)
    || (c == 0x2F)

-- A character's columns: one for a border's, else its width but at most two, and none where it has no width.
unfoldable pub columns_of : ℕ → Option ℕ
columns_of c = if is_border c then Some 1 else option_map (λ n. min n 2) (char_width false c)

-- the columns, 0 for a character without a width
unfoldable pub width_of : ℕ → ℕ
width_of c = unwrap_or (columns_of c) 0

-- a text's columns
abbrev pub text_columns : List ℕ → ℕ
text_columns cs = sum_by width_of cs

-- a border's character, or printable ASCII with the space
abbrev pub IsOfOneColumn : ℕ → Type 0
IsOfOneColumn c = IsTrue (is_border c) ⊎ ((0x20 ≤ c) × (c ≤ 0x7E))

capped : (o : Option ℕ) → IfSome (option_map (λ n. min n 2) o) (λ n. n ≤ 2)
capped None = tt
capped (Some n) = omega arith

chosen : (b : Bool) (o : Option ℕ) → IfSome o (λ n. n ≤ 2) → IfSome (if b then Some 1 else o) (λ n. n ≤ 2)
chosen true o h = omega arith
chosen false o h = h

pub columns_of-at_most_two : (c : ℕ) → IfSome (columns_of c) (λ n. n ≤ 2)
unfolding columns_of
columns_of-at_most_two c = chosen (is_border c) (option_map (λ n. min n 2) (char_width false c))
    (capped (char_width false c))

printable_width : (c : ℕ) → 0x20 ≤ c → c ≤ 0x7E → char_width false c ≡ Some 1
unfolding char_width
printable_width c low high = grind (arith, nat_tests)

one_of : (b : Bool) (o : Option ℕ) → IsTrue b ⊎ (o ≡ Some 1) → (if b then Some 1 else option_map (λ n. min n 2) o)
    ≡ Some 1
one_of true o h = refl
one_of false o (inl h) = cc
one_of false o (inr h) = ap (option_map (λ n. min n 2)) h

pub columns_of-one : (c : ℕ) → IsOfOneColumn c → columns_of c ≡ Some 1
unfolding columns_of
columns_of-one c (inl h) = one_of (is_border c) (char_width false c) (inl h)
columns_of-one c (inr h) = one_of (is_border c) (char_width false c) (inr (printable_width c h.0 h.1))
