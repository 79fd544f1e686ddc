-- Characters that are white space, or that are none.
use Rattle.std.specs.Prelude.{ℕ, Bool, false, true, not}
use Rattle.rules_table.specs.Rows.{is_white_space}

abbrev pub is_alike : (is_space : Bool) → ℕ → Bool
is_alike true c = is_white_space c
is_alike false c = not (is_white_space c)
