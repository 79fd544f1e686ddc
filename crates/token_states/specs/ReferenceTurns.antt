-- What a further character does to what is held of a character reference.
use Rattle.std.specs.Prelude.{ℕ, Bool, ◌==◌, if◌then◌else◌, List, [], ◌∷◌, ◌++◌}
use Rattle.lex_base.specs.References.{References}
use Rattle.token_grammar.specs.Characters.{is_digit}
use Rattle.token_grammar.specs.References.{is_x, semicolon}
use Rattle.token_grammar.specs.declared.modes.Mode.{Mode}
use Rattle.token_states.specs.Turns.{Turns}
use Rattle.token_states.specs.declared.place.LexemeState.{LexemeState}
use Rattle.token_states.specs.declared.place.LexemeState.TheVariants.{CharacterReference}
use Rattle.token_states.specs.declared.place.ReferencePlace.{ReferencePlace}
use Rattle.token_states.specs.declared.place.ReferencePlace.TheVariants.{HexadecimalStart, Decimal, Hexadecimal}
use Rattle.token_states.specs.declared.turn.Turn.{Turn}
use Rattle.token_states.specs.declared.turn.Turn.TheVariants.{Goes, Ends, EndsBefore}

-- what is held then
abbrev pub held_after : Turn → List ℕ → ℕ → List ℕ
held_after (Goes place) held c = held ++ c ∷ []
held_after (Ends place) held c = held ++ c ∷ []
held_after EndsBefore held c = held

abbrev pub ReferenceTurns : References → ReferencePlace → List ℕ → ℕ → Turn → Type 0
ReferenceTurns table place held c turn = (foreign : Bool) (mode : Mode) →
    Turns table foreign mode (CharacterReference place) held c turn (held_after turn held c)

abbrev pub goes : ReferencePlace → Turn
goes place = Goes (CharacterReference place)

-- after `#`
abbrev pub number_turn : ℕ → Turn
number_turn c = if is_x c then goes HexadecimalStart else (if is_digit 10 c then goes Decimal else EndsBefore)

-- after `#x`
abbrev pub hexadecimal_turn : ℕ → Turn
hexadecimal_turn c = if is_digit 16 c then goes Hexadecimal else EndsBefore

-- after digits to the base
abbrev pub digit_turn : ReferencePlace → ℕ → ℕ → Turn
digit_turn place base c = if is_digit base c then goes place
    else (if c == semicolon then Ends (CharacterReference place) else EndsBefore)

-- It goes on, and ends, as a reference.
abbrev pub IsReference : LexemeState → Type 0
IsReference (CharacterReference place) = Unit {0}
IsReference _ = ⊥

abbrev pub StaysInReference : Turn → Type 0
StaysInReference (Goes at) = IsReference at
StaysInReference (Ends at) = IsReference at
StaysInReference EndsBefore = Unit {0}
