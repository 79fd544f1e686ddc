-- What a run of text stops at.
use Rattle.std.specs.Prelude.{ℕ, List, [], ◌∷◌}
use Rattle.html_lexemes.specs.declared.states.RawKind.TheVariants.{ScriptDataEscaped}
use Rattle.token_grammar.specs.declared.modes.TextKind.{TextKind}
use Rattle.token_grammar.specs.declared.modes.TextKind.TheVariants.{Raw}

-- `<`, `&`, LF, CR and NUL; in the escaped text of a script `-` too
abbrev pub stops : TextKind → List ℕ
stops (Raw (ScriptDataEscaped kind)) = 60 ∷ 38 ∷ 10 ∷ 13 ∷ 0 ∷ 45 ∷ []
stops kind = 60 ∷ 38 ∷ 10 ∷ 13 ∷ 0 ∷ []
