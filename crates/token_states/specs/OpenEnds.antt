-- What is held back is no lexeme yet: what follows decides which it is.
use Rattle.std.specs.Prelude.{◌≡◌, ℕ, Bool, ◌==◌, ◌||◌, not, List, ◌++◌, IsTrue}
use Rattle.std.specs.List.{list_all}
use Rattle.lex_base.specs.References.{References}
use Rattle.token_grammar.specs.Lexemes.{Lexeme}
use Rattle.token_grammar.specs.declared.modes.Mode.{Mode}
use Rattle.token_states.specs.Places.{place_lexeme}
use Rattle.token_states.specs.Turns.{with_more}
use Rattle.token_states.specs.declared.place.LexemeState.{LexemeState}

-- characters that are the same in a page and in its text, wherever they stand
abbrev pub is_steady : List ℕ → Bool
is_steady cs = list_all (λ c. not (c == 10 || c == 13 || c == 0xFEFF)) cs

-- No lexeme stands there whatever follows.
abbrev pub IsOpenEnded : References → Bool → Mode → LexemeState → List ℕ → Type 0
IsOpenEnded table foreign mode place held =
    (l : Lexeme) →
    ((rest : List ℕ) → IsTrue (is_steady rest) → place_lexeme table foreign mode place (held ++ rest)
    ≡ with_more rest l) → ⊥
