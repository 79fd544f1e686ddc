-- The values that clap takes for a number are those that say one.
use Rattle.std.proofs.Common.{◌≡◌, ◌∙◌, [], ◌∷◌, Bool, List, ap, arith, false, negsuc, pos, refl, subst, sym, true, ℕ}
use Rattle.std.proofs.Common.{ℤ}
use Rattle.std.proofs.lemmas.Int.{ints}
use Rattle.std.specs.Prelude.{FitsSigned, ◌≤ℤ◌}
use Rattle.std.specs.Int.{w64}
use Rattle.std.specs.Str.Parse.{signed_digits_value}
use Rattle.clap.specs.Kinds.{or_else, values_kinds}
use Rattle.clap.specs.Values.{Accepts}
use Rattle.clap.specs.ValueTests.{accepts}
use Rattle.clap.proofs.KindLemmas.{value_kinds-ok}
use Rattle.clap.proofs.ValueTestLemmas.{accepts-Accepts}
use Rattle.command_line.specs.CommandWords.{Says}
use Rattle.command_line.proofs.ItemUses.{numbers}

-- a value that is not refused is taken
accepted : (value : List ℕ) → values_kinds false numbers (value ∷ []) ≡ [] → Accepts false numbers value
accepted value e = go (accepts false numbers value) refl
  where
    go : (b : Bool) → accepts false numbers value ≡ b → Accepts false numbers value
    go true t = accepts-Accepts false numbers value t
    go false t = absurd (let bad = simp t at e in cc)

pub says_number : (value : List ℕ) → values_kinds false numbers (value ∷ []) ≡ [] → (n : ℕ) × Says value n
says_number value e = go (signed_digits_value 10 value) refl
  where
    taken : Accepts false numbers value
    taken = accepted value e

    go : (z : ℤ) → signed_digits_value 10 value ≡ z → (n : ℕ) × Says value n
    go (pos n) is =
        let most = rw is at taken.3 in
        (n, (taken.0, is, omega (arith, ints)))
    go (negsuc n) is =
        let least = rw is at taken.2 in
        absurd (omega (arith, ints))

pub takes_number : (value : List ℕ) (n : ℕ) → Says value n → values_kinds false numbers (value ∷ []) ≡ []
takes_number value n says = ap (λ k. or_else k []) (value_kinds-ok false numbers value (
  says.0,
  subst (FitsSigned w64) (sym says.1) (record { sfits = omega arith }),
  subst (λ z. pos 0 ≤ℤ z) (sym says.1) (omega (arith, ints)),
  subst (λ z. z ≤ℤ pos 4294967295) (sym says.1) (omega (arith, ints)),
))

-- a value says one number
pub says_one : (value : List ℕ) (m n : ℕ) → Says value m → Says value n → m ≡ n
says_one value m n one other = let same : pos m ≡ pos n = sym one.1 ∙ other.1 in cc
