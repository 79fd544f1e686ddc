-- What is held of a lexeme that goes on is a fact: it holds in one way.
use Rattle.std.specs.Prelude.{ℕ, Bool, true, false, List, [], ◌∷◌, Option}
use Rattle.std.proofs.Props.{props}
use Rattle.lex_base.specs.References.{References}
use Rattle.token_states.specs.Goings.{IsGoing}
use Rattle.html_tokenizer.specs.Holdings.{HoldsUnless, held_of}
use Rattle.token_states.specs.SoundProp.{IsSound-prop}
use Rattle.token_states.specs.declared.place.LexemeState.{LexemeState}
use Rattle.token_states.specs.declared.place.LexemeState.TheVariants.{BogusComment, CdataSection, CharacterReference}
use Rattle.token_states.specs.declared.place.LexemeState.TheVariants.{Comment, Doctype, EndTagOpen}
use Rattle.token_states.specs.declared.place.LexemeState.TheVariants.{MarkupDeclarationOpen, RawText, Tag, TagOpen}
use Rattle.token_states.specs.declared.place.LexemeState.TheVariants.{Text}
use Rattle.token_states.specs.declared.place.ReferencePlace.TheVariants.{Decimal, Hexadecimal, HexadecimalStart, Named}
use Rattle.token_states.specs.declared.place.ReferencePlace.TheVariants.{Numeric}
use Rattle.html_tokenizer.specs.declared.reader.Reader.{Reader}

pub IsGoing-prop : (table : References) (last : Option (List ℕ)) (place : LexemeState) (held : List ℕ) →
    IsProp (IsGoing table last place held)
IsGoing-prop table last Text held = IsSound-prop Text held
IsGoing-prop table last (CharacterReference Named) [] = hlevel props
IsGoing-prop table last (CharacterReference Named) (c ∷ cs) = hlevel props
IsGoing-prop table last (CharacterReference Numeric) held = hlevel props
IsGoing-prop table last (CharacterReference HexadecimalStart) held = hlevel props
IsGoing-prop table last (CharacterReference Decimal) held = hlevel props
IsGoing-prop table last (CharacterReference Hexadecimal) held = hlevel props
IsGoing-prop table last TagOpen held = IsSound-prop TagOpen held
IsGoing-prop table last EndTagOpen held = IsSound-prop EndTagOpen held
IsGoing-prop table last (Tag kind place) held = IsSound-prop (Tag kind place) held
IsGoing-prop table last MarkupDeclarationOpen held = IsSound-prop MarkupDeclarationOpen held
IsGoing-prop table last BogusComment held = IsSound-prop BogusComment held
IsGoing-prop table last Comment held = IsSound-prop Comment held
IsGoing-prop table last Doctype held = IsSound-prop Doctype held
IsGoing-prop table last CdataSection held = IsSound-prop CdataSection held
IsGoing-prop table last (RawText kind place) held = hlevel props

pub HoldsUnless-prop : (over : Bool) (table : References) (reader : Reader) → IsProp (HoldsUnless over table reader)
HoldsUnless-prop true table reader = hlevel props
HoldsUnless-prop false table reader =
    IsGoing-prop table reader.mode.last_start_tag reader.pending.place (held_of reader)
