-- What is held of a lexeme that goes on: more than what a place asks for, it may still become something else.
use Rattle.std.specs.Prelude.{◌&&◌, [], ◌∷◌, Bool, IsTrue, List, None, Option, Some, drop, false, length, nat_lt, true}
use Rattle.std.specs.Prelude.{ℕ}
use Rattle.std.specs.List.{list_all}
use Rattle.lex_base.specs.Lookup.{HasLongerName}
use Rattle.lex_base.specs.References.{References, is_between}
use Rattle.html_lexemes.specs.declared.states.RawKind.{RawKind}
use Rattle.html_lexemes.specs.declared.states.RawKind.TheVariants.{Rcdata, Rawtext, ScriptData, ScriptDataEscaped}
use Rattle.token_states.specs.RawSound.{is_raw_held, is_word_front}
use Rattle.token_states.specs.ReferenceSound.{is_reference_held}
use Rattle.token_states.specs.Sound.{IsSound}
use Rattle.token_states.specs.declared.place.LexemeState.{LexemeState}
use Rattle.token_states.specs.declared.place.LexemeState.TheVariants.{BogusComment, CdataSection, CharacterReference}
use Rattle.token_states.specs.declared.place.LexemeState.TheVariants.{Comment, Doctype, EndTagOpen}
use Rattle.token_states.specs.declared.place.LexemeState.TheVariants.{MarkupDeclarationOpen, RawText, Tag, TagOpen}
use Rattle.token_states.specs.declared.place.LexemeState.TheVariants.{Text}
use Rattle.token_states.specs.declared.place.RawPlace.{RawPlace}
use Rattle.token_states.specs.declared.place.RawPlace.TheVariants.{Dashes, EndTagName, EscapeStart, EscapeWord}
use Rattle.token_states.specs.declared.place.RawPlace.TheVariants.{LessThanSign}
use Rattle.token_states.specs.declared.place.ReferencePlace.{ReferencePlace}
use Rattle.token_states.specs.declared.place.ReferencePlace.TheVariants.{Decimal, Hexadecimal, HexadecimalStart, Named}
use Rattle.token_states.specs.declared.place.ReferencePlace.TheVariants.{Numeric}

-- The table has a name that is longer than what is held of one; after `&` alone a number may stand.
abbrev pub IsNamed : References → ReferencePlace → List ℕ → Type 0
IsNamed table Named [] = Unit {0}
IsNamed table Named (c ∷ cs) = ¬ (¬ (HasLongerName table (c ∷ cs)))
IsNamed table Numeric held = Unit {0}
IsNamed table HexadecimalStart held = Unit {0}
IsNamed table Decimal held = Unit {0}
IsNamed table Hexadecimal held = Unit {0}

-- a name of letters, in lower case, at least one: such a name can end the text of an element
abbrev pub is_name_of_letters : List ℕ → Bool
is_name_of_letters name = nat_lt 0 (length name) && list_all (is_between 97 122) name

-- the last start tag has such a name; and letters are a front of it, ASCII case aside
abbrev pub has_end_tag : Option (List ℕ) → Bool
has_end_tag None = false
has_end_tag (Some name) = is_name_of_letters name

abbrev pub is_end_tag_front : Option (List ℕ) → List ℕ → Bool
is_end_tag_front None letters = false
is_end_tag_front (Some name) letters = is_name_of_letters name && is_word_front name letters

-- in script data `<` may also begin an escaped part, or end a part of one
abbrev pub may_begin : Option (List ℕ) → RawKind → Bool
may_begin last Rcdata = has_end_tag last
may_begin last Rawtext = has_end_tag last
may_begin last ScriptData = true
may_begin last (ScriptDataEscaped kind) = true

abbrev pub is_raw_going : Option (List ℕ) → RawKind → RawPlace → List ℕ → Bool
is_raw_going last kind LessThanSign held = is_raw_held kind LessThanSign held && may_begin last kind
is_raw_going last kind EndTagName held = is_raw_held kind EndTagName held && is_end_tag_front last (drop 2 held)
is_raw_going last kind EscapeStart held = is_raw_held kind EscapeStart held
is_raw_going last kind EscapeWord held = is_raw_held kind EscapeWord held
is_raw_going last kind Dashes held = is_raw_held kind Dashes held

-- the same of any place, with the name of the last start tag
abbrev pub IsGoing : References → Option (List ℕ) → LexemeState → List ℕ → Type 0
IsGoing table last Text held = IsSound Text held
IsGoing table last (CharacterReference place) held = IsTrue (is_reference_held place held) × IsNamed table place held
IsGoing table last TagOpen held = IsSound TagOpen held
IsGoing table last EndTagOpen held = IsSound EndTagOpen held
IsGoing table last (Tag kind place) held = IsSound (Tag kind place) held
IsGoing table last MarkupDeclarationOpen held = IsSound MarkupDeclarationOpen held
IsGoing table last BogusComment held = IsSound BogusComment held
IsGoing table last Comment held = IsSound Comment held
IsGoing table last Doctype held = IsSound Doctype held
IsGoing table last CdataSection held = IsSound CdataSection held
IsGoing table last (RawText kind place) held = IsTrue (is_raw_going last kind place held)
