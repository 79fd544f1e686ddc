-- What is held of the text of an element after a turn.
use Rattle.std.specs.Prelude.{ℕ, zero, suc, Bool, false, ◌==◌, List, [], ◌∷◌, ◌++◌, codes, drop}
use Rattle.html_lexemes.specs.declared.states.RawKind.{RawKind}
use Rattle.html_lexemes.specs.declared.states.RawKind.TheVariants.{ScriptDataEscaped}
use Rattle.html_lexemes.specs.declared.states.ScriptEscapeKind.TheVariants.{Escaped, DoubleEscaped}
use Rattle.token_states.specs.declared.turn.RawTurn.{RawTurn}
use Rattle.token_states.specs.declared.turn.RawTurn.TheVariants.{Goes, Before, Shifts, EndTag}

-- a front that is text leaves two dashes; of an end tag the name is left
abbrev pub held_after : RawTurn → List ℕ → ℕ → List ℕ
held_after (Goes next) held c = held ++ c ∷ []
held_after (Before trailing) held c = held
held_after (Shifts text trailing next) held c = codes "--"
held_after EndTag held c = drop 2 held

-- a word has a character at a place
abbrev pub is_at : ℕ → List ℕ → ℕ → Bool
is_at c [] n = false
is_at c (w ∷ ws) zero = c == w
is_at c (w ∷ ws) (suc n) = is_at c ws n

-- the other of the two escaped parts
abbrev pub other_part : RawKind → RawKind
other_part (ScriptDataEscaped Escaped) = ScriptDataEscaped DoubleEscaped
other_part (ScriptDataEscaped DoubleEscaped) = ScriptDataEscaped Escaped
other_part kind = kind
