-- What a further character does to a lexeme that is not over.
use Rattle.std.specs.Prelude.{◌≡◌, ℕ, Bool, ◌==◌, ◌||◌, not, List, [], ◌∷◌, ◌++◌, IsTrue}
use Rattle.std.specs.List.{list_all}
use Rattle.lex_base.specs.References.{References}
use Rattle.html_lexemes.specs.declared.states.RawKind.{RawKind}
use Rattle.html_lexemes.specs.declared.states.RawKind.TheVariants.{ScriptDataEscaped}
use Rattle.token_grammar.specs.Lexemes.{Lexeme, nothing, emitted, tagged}
use Rattle.token_grammar.specs.declared.modes.Mode.{Mode}
use Rattle.token_grammar.specs.declared.modes.TextKind.{TextKind}
use Rattle.token_grammar.specs.declared.modes.TextKind.TheVariants.{Raw}
use Rattle.token_states.specs.Places.{place_lexeme}
use Rattle.token_states.specs.Goings.{IsGoing}
use Rattle.token_states.specs.declared.place.LexemeState.{LexemeState}
use Rattle.token_states.specs.declared.place.LexemeState.TheVariants.{CharacterReference, TagOpen}
use Rattle.token_states.specs.declared.turn.Turn.{Turn}
use Rattle.token_states.specs.declared.turn.Turn.TheVariants.{Goes, Ends, EndsBefore}

-- a lexeme with more text after it
abbrev pub with_more : List ℕ → Lexeme → Lexeme
with_more more nothing = nothing
with_more more (emitted items trailing rest) = emitted items trailing (rest ++ more)
with_more more (tagged t rest) = tagged t (rest ++ more)

-- A character that is text by itself, whatever follows it; as a dash is not in an escaped part of a script. NUL is
-- never shown as it is.
abbrev pub is_raw_text : RawKind → ℕ → Bool
is_raw_text (ScriptDataEscaped kind) c = not (c == 0 || c == 60 || c == 38 || c == 45)
is_raw_text kind c = not (c == 0 || c == 60 || c == 38)

abbrev pub is_text : TextKind → ℕ → Bool
is_text (Raw kind) c = is_raw_text kind c
is_text kind c = not (c == 0 || c == 60 || c == 38)

-- no tag
abbrev pub IsUntagged : Lexeme → Type 0
IsUntagged nothing = Unit {0}
IsUntagged (emitted items trailing rest) = Unit {0}
IsUntagged (tagged t rest) = ⊥

-- what a lexeme leaves of the characters held back is text, each character by itself
abbrev pub LeavesText : Lexeme → Type 0
LeavesText nothing = ⊥
LeavesText (emitted items trailing rest) = IsTrue (list_all (is_text trailing.text) rest)
LeavesText (tagged t rest) = rest ≡ []

-- The lexeme of what is held at a place is over before some characters: neither they nor what follows them changes it.
pub record IsOver (table : References) (foreign : Bool) (mode : Mode) (place : LexemeState)
    (held follow : List ℕ) : Type 0 where
  pub settled : (rest : List ℕ) → place_lexeme table foreign mode place (held ++ (follow ++ rest))
      ≡ with_more (follow ++ rest) (place_lexeme table foreign mode place held)
  pub left : LeavesText (place_lexeme table foreign mode place held)

-- what is held at a new place is what was held, with the character
abbrev pub IsTaken : References → Bool → Mode → LexemeState → List ℕ → ℕ → LexemeState → List ℕ → Type 0
IsTaken table foreign mode place held c next now =
    (rest : List ℕ) → place_lexeme table foreign mode next (now ++ rest)
    ≡ place_lexeme table foreign mode place (held ++ c ∷ rest)

-- What is held was over before the character: a character reference, or a `<` that is text.
abbrev pub EndsBeforeAt : References → Bool → Mode → LexemeState → List ℕ → ℕ → List ℕ → Type 0
EndsBeforeAt table foreign mode (CharacterReference place) held c now =
    (now ≡ held) × IsOver table foreign mode (CharacterReference place) held (c ∷ [])
EndsBeforeAt table foreign mode TagOpen held c now = (now ≡ held) × IsOver table foreign mode TagOpen held (c ∷ [])
EndsBeforeAt table foreign mode place held c now = ⊥

abbrev pub Turns : References → Bool → Mode → LexemeState → List ℕ → ℕ → Turn → List ℕ → Type 0
Turns table foreign mode place held c (Goes at) now =
    IsTaken table foreign mode place held c at now × IsGoing table mode.last_start_tag at now
Turns table foreign mode place held c (Ends at) now =
    IsTaken table foreign mode place held c at now × IsOver table foreign mode at now []
Turns table foreign mode place held c EndsBefore now = EndsBeforeAt table foreign mode place held c now
