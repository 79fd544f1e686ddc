-- Words of the worked rows.
use Rattle.std.specs.Prelude.{◌≡◌, ℕ, Bool, ◌==◌}
use Rattle.std.specs.Char.{to_ascii_lowercase}

-- two characters are one letter, ASCII case aside
abbrev pub same_letter : ℕ → ℕ → Bool → Type 0
same_letter a b r = r ≡ (to_ascii_lowercase a == to_ascii_lowercase b)
