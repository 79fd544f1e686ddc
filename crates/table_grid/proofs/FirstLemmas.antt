-- The first number below a bound that passes a test, or the bound.
use Rattle.std.proofs.Common.{◌≡◌, ℕ, ◌<◌, ◌≤◌, Bool, true, false, not, subst, arith}
use Rattle.std.specs.List.{position_or_len, range_with_len}
use Rattle.std.proofs.lemmas.List.FromFn.{length-range_with_len, get_or-range_with_len}
use Rattle.std.proofs.lemmas.List.Sums.{fails_before_first, passes_at_first, prefix_len-le-length}

pub record IsFirst (p : ℕ → Bool) (bound first : ℕ) : Type 0 where
  pub within : first ≤ bound
  pub passes : first < bound → p first ≡ true
  pub fails : (k : ℕ) → k < first → p k ≡ false

module _ (p : ℕ → Bool) (bound : ℕ) where
  abbrev first : ℕ
  first = position_or_len p (range_with_len 0 bound)

  le : first ≤ bound
  le = let a = prefix_len-le-length (λ x. not (p x)) (range_with_len 0 bound) in
      let b = length-range_with_len 0 bound in omega arith

  pub first_is : IsFirst p bound first
  first_is =
      let len = length-range_with_len 0 bound in
      let within = le in
      record {
        within = within;
        passes = λ lt. subst (λ (k : ℕ). p k ≡ true)
            (let e = get_or-range_with_len 0 bound first 0 lt in omega arith)
            (passes_at_first p (range_with_len 0 bound) 0 (omega arith));
        fails = λ k lt. subst (λ (j : ℕ). p j ≡ false)
            (let e = get_or-range_with_len 0 bound k 0 (omega arith) in omega arith)
            (fails_before_first p (range_with_len 0 bound) k 0 lt);
      }
