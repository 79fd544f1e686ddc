-- What a reader holds.
use Rattle.std.specs.Prelude.{◌≡◌, Bool, true, false, List, ℕ, [], chars, string_bytes, IsTrue}
use Rattle.lex_base.specs.References.{References}
use Rattle.html_lexemes.specs.declared.states.RawKind.{RawKind}
use Rattle.token_states.specs.Goings.{IsGoing, is_raw_going}
use Rattle.token_states.specs.declared.place.LexemeState.TheVariants.{RawText, Text}
use Rattle.token_states.specs.declared.place.RawPlace.{RawPlace}
use Rattle.html_tokenizer.specs.declared.reader.Reader.{Reader}

abbrev pub held_of : Reader → List ℕ
held_of reader = chars (string_bytes reader.pending.held)

-- It is of a lexeme that goes on; in the text of an element too.
abbrev pub Holds : References → Reader → Type 0
Holds table reader = IsGoing table reader.mode.last_start_tag reader.pending.place (held_of reader)

abbrev pub HoldsRaw : Reader → Type 0
HoldsRaw reader = (kind : RawKind) (place : RawPlace) → reader.pending.place ≡ RawText kind place →
    IsTrue (is_raw_going reader.mode.last_start_tag kind place (held_of reader))

-- where it has not come to the end, and no call was refused
abbrev pub HoldsUnless : Bool → References → Reader → Type 0
HoldsUnless true table reader = Unit {0}
HoldsUnless false table reader = Holds table reader

-- Nothing is held, and no text waits to be emitted.
pub record HoldsNothing (reader : Reader) : Type 0 where
  pub place : reader.pending.place ≡ Text
  pub held : held_of reader ≡ []
  pub run : string_bytes reader.run ≡ []
