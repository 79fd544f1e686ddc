-- The last of some things, taken off.
use Rattle.std.specs.Prelude.{◌≡◌, ◌+◌, [], ◌∷◌, ◌++◌, List, MatchOption, None, Option, Some, length, option_to_list}
use Rattle.std.specs.Prelude.{refl, ℕ}
use Rattle.std.proofs.Common.{sym, ap, ◌∙◌, arith}
use Rattle.std.proofs.lemmas.List.{append-nil}
use Rattle.block_layout.specs.LaidRows.{before_last}

front_of : {A : Type 0} (front : List A) (x : A) → before_last (front ++ x ∷ []) ≡ front
front_of [] x = refl
front_of (y ∷ []) x = refl
front_of (y ∷ z ∷ front) x = ap (λ xs. y ∷ xs) (front_of (z ∷ front) x)

last_off : {A : Type 0} (xs front : List A) (x : A) → xs ≡ front ++ x ∷ [] → front ≡ before_last xs
last_off xs front x e = sym (ap (λ ys. before_last ys) e ∙ front_of front x)

none_by : {A : Type 0} (old new : List A) → length old ≡ 0 → old ≡ new → new ≡ before_last old
none_by [] new l e = sym e
none_by (x ∷ xs) new l e = absurd (omega arith)

-- what a pop leaves
pub dropped : {A : Type 0} (r : Option A) (old new : List A) (n m : ℕ) → n ≡ length old
    → old ≡ new ++ option_to_list r → MatchOption r ((n ≡ 0) × (m ≡ 0)) (λ _. m + 1 ≡ n) → new ≡ before_last old
dropped None old new n m len e cases = none_by old new (sym len ∙ cases.0) (e ∙ append-nil new)
dropped (Some x) old new n m len e cases = last_off old new x e
