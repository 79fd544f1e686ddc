-- Places in text of a kind.
use Rattle.std.proofs.Common.{ℕ, Bool, List, codes}
use Rattle.lex_base.specs.References.{References}
use Rattle.html_lexemes.specs.declared.token.TagKind.{TagKind}
use Rattle.html_lexemes.specs.declared.token.TagKind.TheVariants.{StartTag, EndTag}
use Rattle.token_grammar.specs.Kinds.{HasMarkup, IsOfTag, LexemeOf}
use Rattle.token_grammar.specs.Lexemes.{in_kind}
use Rattle.token_grammar.specs.References.{reference}
use Rattle.token_grammar.specs.Slices.{after, cut, cut_or_all}
use Rattle.token_grammar.specs.declared.modes.Mode.{Mode}
use Rattle.token_grammar.specs.declared.modes.TextKind.{TextKind}
use Rattle.token_grammar.proofs.KindLemmas.{any_section, in_declaration, in_end_tag, in_markup, in_reference, in_tag}
use Rattle.token_grammar.proofs.KindLemmas.{in_text}
use Rattle.token_states.specs.PlaceKinds.{IsPlaceOf, KeepsKind}
use Rattle.token_states.specs.Places.{place_lexeme}
use Rattle.token_states.specs.declared.place.LexemeState.{LexemeState}
use Rattle.token_states.specs.declared.place.LexemeState.TheVariants.{BogusComment, CdataSection, CharacterReference}
use Rattle.token_states.specs.declared.place.LexemeState.TheVariants.{Comment, Doctype, EndTagOpen}
use Rattle.token_states.specs.declared.place.LexemeState.TheVariants.{MarkupDeclarationOpen, RawText, Tag, TagOpen}
use Rattle.token_states.specs.declared.place.LexemeState.TheVariants.{Text}
use Rattle.token_states.specs.declared.turn.Turn.{Turn}
use Rattle.token_states.specs.declared.turn.Turn.TheVariants.{Goes, Ends, EndsBefore}

pub at_place : (table : References) (foreign : Bool) (mode : Mode) (place : LexemeState) (cs : List ℕ) →
    IsPlaceOf mode.text place → LexemeOf mode.text (place_lexeme table foreign mode place cs)
at_place table foreign mode Text cs h = in_text mode.text table foreign mode cs (λ m. m)
at_place table foreign mode (CharacterReference place) cs h =
    in_reference mode.text mode (λ m. m) cs (reference table cs)
at_place table foreign mode TagOpen cs h = in_markup mode.text mode (λ m. m) h table foreign cs
at_place table foreign mode EndTagOpen cs h = in_end_tag mode.text mode (λ m. m) h table cs
at_place table foreign mode (Tag kind place) cs h = in_tag mode.text table kind cs h
at_place table foreign mode MarkupDeclarationOpen cs h = in_declaration mode.text mode (λ m. m) h foreign cs
at_place table foreign mode BogusComment cs h = (((tt, h), tt), λ m. m)
at_place table foreign mode Comment cs h = (((tt, h), tt), λ m. m)
at_place table foreign mode Doctype cs h = (((tt, h), tt), λ m. m)
at_place table foreign mode CdataSection cs h =
    any_section mode.text mode (λ m. m) h _ (cut_or_all (cut (after (codes "]]>")) cs) cs).rest
at_place table foreign mode (RawText kind place) cs h =
    in_text mode.text table foreign (in_kind mode kind) cs (λ m. absurd m)

-- every place is one of text with markup
any_tag : (kind : TextKind) (tag : TagKind) → HasMarkup kind → IsOfTag kind tag
any_tag kind StartTag h = h
any_tag kind EndTag h = tt

pub any_place : (kind : TextKind) (place : LexemeState) → HasMarkup kind → IsPlaceOf kind place
any_place kind Text h = tt
any_place kind (CharacterReference place) h = tt
any_place kind (RawText raw place) h = tt
any_place kind (Tag tag place) h = any_tag kind tag h
any_place kind TagOpen h = h
any_place kind EndTagOpen h = h
any_place kind MarkupDeclarationOpen h = h
any_place kind BogusComment h = h
any_place kind Comment h = h
any_place kind Doctype h = h
any_place kind CdataSection h = h

-- from markup any turn keeps the kind of the text
pub from_markup : (place : LexemeState) (turn : Turn) → ((kind : TextKind) → IsPlaceOf kind place → HasMarkup kind) →
    KeepsKind place turn
from_markup place (Goes at) m = λ kind h. any_place kind at (m kind h)
from_markup place (Ends at) m = λ kind h. any_place kind at (m kind h)
from_markup place EndsBefore m = tt
