-- What is held at each place.
use Rattle.std.specs.Prelude.{◌≡◌, ℕ, List, [], IsTrue}
use Rattle.token_states.specs.MarkupSound.{HasNoGreater, IsOpenComment, is_begun_declaration, is_begun_section_end}
use Rattle.token_states.specs.RawSound.{is_raw_held}
use Rattle.token_states.specs.ReferenceSound.{is_reference_held}
use Rattle.token_states.specs.TagPlaces.{IsInTag}
use Rattle.token_states.specs.declared.place.LexemeState.{LexemeState}
use Rattle.token_states.specs.declared.place.LexemeState.TheVariants.{BogusComment, CdataSection, CharacterReference}
use Rattle.token_states.specs.declared.place.LexemeState.TheVariants.{Comment, Doctype, EndTagOpen}
use Rattle.token_states.specs.declared.place.LexemeState.TheVariants.{MarkupDeclarationOpen, RawText, Tag, TagOpen}
use Rattle.token_states.specs.declared.place.LexemeState.TheVariants.{Text}

abbrev pub IsSound : LexemeState → List ℕ → Type 0
IsSound Text held = held ≡ []
IsSound (CharacterReference place) held = IsTrue (is_reference_held place held)
IsSound TagOpen held = held ≡ []
IsSound EndTagOpen held = held ≡ []
IsSound (Tag kind place) held = IsInTag kind place held
IsSound MarkupDeclarationOpen held = IsTrue (is_begun_declaration held)
IsSound BogusComment held = HasNoGreater held
IsSound Comment held = IsOpenComment held
IsSound Doctype held = HasNoGreater held
IsSound CdataSection held = IsTrue (is_begun_section_end held)
IsSound (RawText kind place) held = IsTrue (is_raw_held kind place held)
