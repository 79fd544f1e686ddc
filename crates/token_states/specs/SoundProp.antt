-- What is held at a place is a fact: it holds in one way.
use Rattle.std.specs.Prelude.{ℕ, List}
use Rattle.std.proofs.Props.{props}
use Rattle.token_states.specs.Sound.{IsSound}
use Rattle.token_states.specs.declared.place.LexemeState.{LexemeState}
use Rattle.token_states.specs.declared.place.LexemeState.TheVariants.{BogusComment, CdataSection, CharacterReference}
use Rattle.token_states.specs.declared.place.LexemeState.TheVariants.{Comment, Doctype, EndTagOpen}
use Rattle.token_states.specs.declared.place.LexemeState.TheVariants.{MarkupDeclarationOpen, RawText, Tag, TagOpen}
use Rattle.token_states.specs.declared.place.LexemeState.TheVariants.{Text}

pub IsSound-prop : (place : LexemeState) (held : List ℕ) → IsProp (IsSound place held)
IsSound-prop Text held = hlevel props
IsSound-prop (CharacterReference place) held = hlevel props
IsSound-prop TagOpen held = hlevel props
IsSound-prop EndTagOpen held = hlevel props
IsSound-prop (Tag kind place) held = hlevel props
IsSound-prop MarkupDeclarationOpen held = hlevel props
IsSound-prop BogusComment held = hlevel props
IsSound-prop Comment held = hlevel props
IsSound-prop Doctype held = hlevel props
IsSound-prop CdataSection held = hlevel props
IsSound-prop (RawText kind place) held = hlevel props
