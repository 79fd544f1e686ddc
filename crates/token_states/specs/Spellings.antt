-- How a text stands to a mark.
use Rattle.std.specs.Prelude.{ℕ, Bool, ◌==◌, if◌then◌else◌, List, [], ◌∷◌}
use Rattle.std.specs.Char.{to_ascii_lowercase}
use Rattle.token_states.specs.declared.declarations.Spelled.{Spelled}
use Rattle.token_states.specs.declared.declarations.Spelled.TheVariants.{Whole, Front, Apart}

-- a character as it is compared: in lower case, where its case is no matter
abbrev pub folded : Bool → ℕ → ℕ
folded any_case c = if any_case then to_ascii_lowercase c else c

abbrev pub spelled : (ℕ → ℕ) → List ℕ → List ℕ → Spelled
spelled fold [] [] = Whole
spelled fold [] (c ∷ cs) = Apart
spelled fold (m ∷ ms) [] = Front
spelled fold (m ∷ ms) (c ∷ cs) = if fold c == m then spelled fold ms cs else Apart
