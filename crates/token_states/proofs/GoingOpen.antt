-- What is held of a lexeme that goes on is no lexeme yet.
use Rattle.std.proofs.Common.{ℕ, Bool, List}
use Rattle.lex_base.specs.References.{References}
use Rattle.token_grammar.specs.declared.modes.Mode.{Mode}
use Rattle.token_states.specs.Goings.{IsGoing}
use Rattle.token_states.specs.OpenEnds.{IsOpenEnded}
use Rattle.token_states.specs.declared.place.LexemeState.{LexemeState}
use Rattle.token_states.specs.declared.place.LexemeState.TheVariants.{BogusComment, CdataSection, CharacterReference}
use Rattle.token_states.specs.declared.place.LexemeState.TheVariants.{Comment, Doctype, EndTagOpen}
use Rattle.token_states.specs.declared.place.LexemeState.TheVariants.{MarkupDeclarationOpen, RawText, Tag, TagOpen}
use Rattle.token_states.specs.declared.place.LexemeState.TheVariants.{Text}
use Rattle.token_states.proofs.MarkupOpenEnds.{bogus_comment_undecided, comment_undecided, declaration_undecided}
use Rattle.token_states.proofs.MarkupOpenEnds.{doctype_undecided, end_tag_open_undecided, section_undecided}
use Rattle.token_states.proofs.MarkupOpenEnds.{tag_open_undecided, tag_undecided, text_undecided}
use Rattle.token_states.proofs.RawOpenEnds.{raw_open}
use Rattle.token_states.proofs.ReferenceNames.{AreNames}
use Rattle.token_states.proofs.ReferenceOpenEnds.{references_open}

pub going_open : (table : References) (foreign : Bool) (mode : Mode) (place : LexemeState) (held : List ℕ) → AreNames table →
    IsGoing table mode.last_start_tag place held → IsOpenEnded table foreign mode place held
going_open table foreign mode Text held law h = text_undecided table foreign mode held h
going_open table foreign mode (CharacterReference place) held law h =
    references_open table foreign mode place held law h.0 h.1
going_open table foreign mode TagOpen held law h = tag_open_undecided table foreign mode held h
going_open table foreign mode EndTagOpen held law h = end_tag_open_undecided table foreign mode held h
going_open table foreign mode (Tag kind place) held law h = tag_undecided table foreign mode kind place held h
going_open table foreign mode MarkupDeclarationOpen held law h = declaration_undecided table foreign mode held h
going_open table foreign mode BogusComment held law h = bogus_comment_undecided table foreign mode held h
going_open table foreign mode Comment held law h = comment_undecided table foreign mode held h
going_open table foreign mode Doctype held law h = doctype_undecided table foreign mode held h
going_open table foreign mode CdataSection held law h = section_undecided table foreign mode held h
going_open table foreign mode (RawText kind place) held law h = raw_open table foreign mode kind place held h
