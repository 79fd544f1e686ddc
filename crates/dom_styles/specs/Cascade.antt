-- Which declaration of a property holds (CSS 2.2, 6.4.1).
use Rattle.std.specs.Prelude.{◌≡◌, true, false, List, [], ◌∷◌, ◌++◌, Option, None, Some, All, if◌then◌else◌}
use Rattle.dom_styles.specs.declared.cascade.Declared.{Declared}
use Rattle.dom_styles.specs.Keys.{is_before, is_outranked}

-- Of declarations in order one has the greatest key, and is the last of those that have it.
pub record Holds {T : Type 0} (ds : List (Declared T)) (d : Declared T) : Type 0 where
  pub front : List (Declared T)
  pub rest : List (Declared T)
  pub split : ds ≡ front ++ d ∷ rest
  pub greatest : All (λ e. is_before d e ≡ false) front
  pub last : All (λ e. is_before e d ≡ true) rest

-- A property is unset where nothing is declared of it.
abbrev pub IsCascaded : {T : Type 0} → List (Declared T) → Option (Declared T) → Type 0
IsCascaded ds None = ds ≡ []
IsCascaded ds (Some d) = Holds ds d

-- the same as a function: each declaration holds from its place on, unless one before it has a greater key
abbrev pub cascade_from : {T : Type 0} → Option (Declared T) → List (Declared T) → Option (Declared T)
cascade_from one [] = one
cascade_from one (d ∷ ds) = cascade_from (if is_outranked one d then one else Some d) ds

abbrev pub cascade : {T : Type 0} → List (Declared T) → Option (Declared T)
cascade ds = cascade_from None ds
