-- Columns of items, and spaces.
use Rattle.std.proofs.Common.{◌≡◌, ◌-◌, ◌<◌, ◌≤◌, [], ◌∷◌, ◌++◌, ◌∙◌, List, ap, arith, drop, false, inr, length, refl}
use Rattle.std.proofs.Common.{replicate, suc, true, zero, ℕ}
use Rattle.std.specs.Prelude.{nat_le, nat_lt, unwrap_or}
use Rattle.std.proofs.lemmas.List.{length-drop}
use Rattle.std.proofs.lemmas.Bool.Decides.{nat_tests}
use Rattle.text_lines.specs.Columns.{width_of, columns_of-one}
use Rattle.text_lines.specs.Tagged.{Item, character, marker, line_columns}
use Rattle.text_pieces.proofs.ItemColumns.{line_columns-cons}
use Rattle.text_preserved.specs.Preserved.{space, item_columns}

-- what the tests of numbers say
pub le_when : (a b : ℕ) → nat_le a b ≡ true → a ≤ b
le_when a b e = grind (arith, nat_tests)

pub lt_unless : (a b : ℕ) → nat_le a b ≡ false → b < a
lt_unless a b e = grind (arith, nat_tests)

pub le_unless : (a b : ℕ) → nat_lt a b ≡ false → b ≤ a
le_unless a b e = grind (arith, nat_tests)

pub le_is_true : (a b : ℕ) → a ≤ b → nat_le a b ≡ true
le_is_true a b h = grind (arith, nat_tests)

pub lt_is_false : (a b : ℕ) → b ≤ a → nat_lt a b ≡ false
lt_is_false a b h = grind (arith, nat_tests)

-- U+0020 has one column
pub width_of-space : width_of 0x20 ≡ 1
unfolding width_of
width_of-space = ap (λ o. unwrap_or o 0) (columns_of-one 0x20 (inr (omega arith, omega arith)))

-- U+0020 and nothing else
abbrev pub IsSpace : {S : Type 0} → Item S → Type 0
IsSpace (character c tag) = c ≡ 0x20
IsSpace (marker name) = ⊥

abbrev pub AreSpaces : {S : Type 0} → List (Item S) → Type 0
AreSpaces [] = Unit {0}
AreSpaces (x ∷ xs) = IsSpace x × AreSpaces xs

pub AreSpaces-append : {S : Type 0} (xs ys : List (Item S)) → AreSpaces xs → AreSpaces ys → AreSpaces (xs ++ ys)
AreSpaces-append [] ys hx hy = hy
AreSpaces-append (x ∷ xs) ys hx hy = (hx.0, AreSpaces-append xs ys hx.1 hy)

pub AreSpaces-replicate : {S : Type 0} (n : ℕ) (tag : S) → AreSpaces (replicate n (space tag))
AreSpaces-replicate zero tag = tt
AreSpaces-replicate (suc n) tag = (refl, AreSpaces-replicate n tag)

pub AreSpaces-drop : {S : Type 0} (n : ℕ) (xs : List (Item S)) → AreSpaces xs → AreSpaces (drop n xs)
AreSpaces-drop zero xs h = h
AreSpaces-drop (suc n) [] h = tt
AreSpaces-drop (suc n) (x ∷ xs) h = AreSpaces-drop n xs h.1

-- a space has one column, so spaces have as many as they are
pub item_columns-space : {S : Type 0} (x : Item S) → IsSpace x → item_columns x ≡ 1
item_columns-space (character c tag) h = ap width_of h ∙ width_of-space
item_columns-space (marker name) h = absurd h

pub line_columns-spaces : {S : Type 0} (xs : List (Item S)) → AreSpaces xs → line_columns xs ≡ length xs
line_columns-spaces [] h = refl
line_columns-spaces (x ∷ xs) h = let rest = line_columns-spaces xs h.1 in
    omega (arith, line_columns-cons x xs, item_columns-space x h.0)

pub length-replicate : {A : Type 0} (n : ℕ) (x : A) → length (replicate n x) ≡ n
length-replicate zero x = refl
length-replicate (suc n) x = let rest = length-replicate n x in omega arith

pub line_columns-replicate : {S : Type 0} (n : ℕ) (tag : S) → line_columns (replicate n (space tag)) ≡ n
line_columns-replicate n tag = line_columns-spaces (replicate n (space tag)) (AreSpaces-replicate n tag)
    ∙ length-replicate n (space tag)

pub line_columns-drop : {S : Type 0} (n : ℕ) (xs : List (Item S)) → AreSpaces xs → line_columns (drop n xs)
    ≡ line_columns xs - n
line_columns-drop n xs h = omega (
  arith,
  line_columns-spaces (drop n xs) (AreSpaces-drop n xs h),
  length-drop n xs,
  line_columns-spaces xs h,
)
