-- What stands before a mark at a text's end.
use Rattle.std.specs.Prelude.{ℕ, if◌then◌else◌, List, length, ◌-◌, take, reverse, Option, Some, None}
use Rattle.token_grammar.specs.Slices.{begins}

abbrev pub before : List ℕ → List ℕ → Option (List ℕ)
before mark cs = if begins (reverse mark) (reverse cs) then Some (take (length cs - length mark) cs) else None
