-- What is held of a character reference.
use Rattle.std.specs.Prelude.{ℕ, Bool, false, ◌==◌, ◌&&◌, nat_lt, List, [], ◌∷◌, length}
use Rattle.std.specs.List.{list_all}
use Rattle.token_grammar.specs.Characters.{is_alphanumeric, is_digit}
use Rattle.token_grammar.specs.References.{is_x}
use Rattle.token_states.specs.declared.place.ReferencePlace.{ReferencePlace}
use Rattle.token_states.specs.declared.place.ReferencePlace.TheVariants.{Decimal, Hexadecimal, HexadecimalStart, Named}
use Rattle.token_states.specs.declared.place.ReferencePlace.TheVariants.{Numeric}

-- at least one digit to the base
abbrev pub are_digits : ℕ → List ℕ → Bool
are_digits base cs = nat_lt 0 (length cs) && list_all (is_digit base) cs

abbrev pub is_hexadecimal_start : List ℕ → Bool
is_hexadecimal_start (n ∷ x ∷ []) = n == 35 && is_x x
is_hexadecimal_start _ = false

abbrev pub are_decimal : List ℕ → Bool
are_decimal (n ∷ cs) = n == 35 && are_digits 10 cs
are_decimal [] = false

abbrev pub are_hexadecimal : List ℕ → Bool
are_hexadecimal (n ∷ x ∷ cs) = n == 35 && is_x x && are_digits 16 cs
are_hexadecimal _ = false

-- what is held after `&`
abbrev pub is_reference_held : ReferencePlace → List ℕ → Bool
is_reference_held Named held = list_all is_alphanumeric held
is_reference_held Numeric held = length held == 1 && list_all (λ c. c == 35) held
is_reference_held HexadecimalStart held = is_hexadecimal_start held
is_reference_held Decimal held = are_decimal held
is_reference_held Hexadecimal held = are_hexadecimal held
