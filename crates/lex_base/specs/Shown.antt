-- A code point as a character other than NUL.
use Rattle.std.specs.Prelude.{ℕ, Option, Some, None, if◌then◌else◌}
use Rattle.lex_base.specs.References.{is_shown}

abbrev pub shown_if : ℕ → Option ℕ
shown_if c = if is_shown c then Some c else None
