-- What stands at a place: the lexeme of the characters held back and those that follow, by the grammar.
use Rattle.std.specs.Prelude.{ℕ, Bool, List, codes}
use Rattle.lex_base.specs.References.{References}
use Rattle.token_grammar.specs.Comments.{bogus_comment_slice, comment_slice}
use Rattle.token_grammar.specs.Doctypes.{doctype_at}
use Rattle.token_grammar.specs.Lexemes.{Lexeme, after_slash, cdata_lexeme, comment_lexeme, declaration, doctype_lexeme}
use Rattle.token_grammar.specs.Lexemes.{in_kind, lexeme, markup, reference_lexeme, tag_lexeme}
use Rattle.token_grammar.specs.References.{reference}
use Rattle.token_grammar.specs.Slices.{after, cut, cut_or_all}
use Rattle.token_grammar.specs.Tags.{tag_at}
use Rattle.token_grammar.specs.declared.modes.Mode.{Mode}
use Rattle.token_states.specs.declared.place.LexemeState.{LexemeState}
use Rattle.token_states.specs.declared.place.LexemeState.TheVariants.{BogusComment, CdataSection, CharacterReference}
use Rattle.token_states.specs.declared.place.LexemeState.TheVariants.{Comment, Doctype, EndTagOpen}
use Rattle.token_states.specs.declared.place.LexemeState.TheVariants.{MarkupDeclarationOpen, RawText, Tag, TagOpen}
use Rattle.token_states.specs.declared.place.LexemeState.TheVariants.{Text}

abbrev pub place_lexeme : References → Bool → Mode → LexemeState → List ℕ → Lexeme
place_lexeme table foreign mode Text cs = lexeme table foreign mode cs
place_lexeme table foreign mode (CharacterReference place) cs = reference_lexeme mode cs (reference table cs)
place_lexeme table foreign mode TagOpen cs = markup table foreign mode cs
place_lexeme table foreign mode EndTagOpen cs = after_slash table mode cs
place_lexeme table foreign mode (Tag kind place) cs = tag_lexeme (tag_at table kind cs)
place_lexeme table foreign mode MarkupDeclarationOpen cs = declaration foreign mode cs
place_lexeme table foreign mode BogusComment cs = comment_lexeme mode (bogus_comment_slice cs)
place_lexeme table foreign mode Comment cs = comment_lexeme mode (comment_slice cs)
place_lexeme table foreign mode Doctype cs = doctype_lexeme mode (doctype_at cs)
place_lexeme table foreign mode CdataSection cs = cdata_lexeme mode (cut_or_all (cut (after (codes "]]>")) cs) cs)
place_lexeme table foreign mode (RawText kind place) cs = lexeme table foreign (in_kind mode kind) cs
