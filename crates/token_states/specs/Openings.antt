-- What a text after `<!` opens.
use Rattle.std.specs.Prelude.{◌≡◌, ℕ, Bool, List, [], ◌∷◌, ◌++◌, IsTrue, Option}
use Rattle.lex_base.specs.References.{References}
use Rattle.token_grammar.specs.Comments.{bogus_comment_slice}
use Rattle.token_grammar.specs.Lexemes.{comment_lexeme, declaration}
use Rattle.token_grammar.specs.declared.modes.Mode.{Mode}
use Rattle.token_states.specs.MarkupSound.{is_begun_declaration}
use Rattle.token_states.specs.Places.{place_lexeme}
use Rattle.token_states.specs.Goings.{IsGoing}
use Rattle.token_states.specs.declared.declarations.Opening.{Opening}
use Rattle.token_states.specs.declared.declarations.Opening.TheVariants.{Begun, Opens, Other}
use Rattle.token_states.specs.declared.place.LexemeState.{LexemeState}

-- what follows is read at the place that is opened
abbrev pub IsOpened : Bool → List ℕ → LexemeState → Type 0
IsOpened foreign cs place = (table : References) (mode : Mode) (rest : List ℕ) →
    place_lexeme table foreign mode place rest ≡ declaration foreign mode (cs ++ rest)

-- before its last character it was a beginning, and now, whatever follows, it is a bogus comment
abbrev pub IsBogus : Bool → List ℕ → Type 0
IsBogus foreign cs =
    (front : List ℕ) (c : ℕ) → cs ≡ front ++ c ∷ [] → IsTrue (is_begun_declaration front)
    → (mode : Mode) (rest : List ℕ) → comment_lexeme mode (bogus_comment_slice (cs ++ rest))
    ≡ declaration foreign mode (cs ++ rest)

abbrev pub IsOpening : Bool → List ℕ → Opening → Type 0
IsOpening foreign cs Begun = IsTrue (is_begun_declaration cs)
IsOpening foreign cs (Opens place) = IsOpened foreign cs place
    × ((table : References) (last : Option (List ℕ)) → IsGoing table last place [])
IsOpening foreign cs Other = IsBogus foreign cs
