-- Kinds of places.
use Rattle.std.specs.Prelude.{Bool, true, false}
use Rattle.token_grammar.specs.Kinds.{HasMarkup, IsOfTag}
use Rattle.token_grammar.specs.declared.modes.TextKind.{TextKind}
use Rattle.token_states.specs.declared.first.First.{First}
use Rattle.token_states.specs.declared.first.First.TheVariants.{Text as FirstText, Null, Opens, OpensRaw}
use Rattle.token_states.specs.declared.turn.Turn.{Turn}
use Rattle.token_states.specs.declared.turn.Turn.TheVariants.{Goes, Ends, EndsBefore}
use Rattle.token_states.specs.declared.place.LexemeState.{LexemeState}
use Rattle.token_states.specs.declared.place.LexemeState.TheVariants.{BogusComment, CdataSection, CharacterReference}
use Rattle.token_states.specs.declared.place.LexemeState.TheVariants.{Comment, Doctype, EndTagOpen}
use Rattle.token_states.specs.declared.place.LexemeState.TheVariants.{MarkupDeclarationOpen, RawText, Tag, TagOpen}
use Rattle.token_states.specs.declared.place.LexemeState.TheVariants.{Text}

-- The state is one of text: a reference in text is of that state too.
abbrev pub is_of_text : LexemeState → Bool
is_of_text Text = true
is_of_text (CharacterReference place) = true
is_of_text place = false

-- No character is held back: those of an opening are.
abbrev pub is_open : LexemeState → Bool
is_open Text = true
is_open CdataSection = true
is_open place = false

-- a place in text, in a section or in the text of an element
abbrev pub IsNoMarkup : LexemeState → Type 0
IsNoMarkup Text = Unit {0}
IsNoMarkup CdataSection = Unit {0}
IsNoMarkup (RawText kind place) = Unit {0}
IsNoMarkup (CharacterReference place) = ⊥
IsNoMarkup TagOpen = ⊥
IsNoMarkup EndTagOpen = ⊥
IsNoMarkup (Tag kind place) = ⊥
IsNoMarkup MarkupDeclarationOpen = ⊥
IsNoMarkup BogusComment = ⊥
IsNoMarkup Comment = ⊥
IsNoMarkup Doctype = ⊥

-- a place in markup or in a section
abbrev pub IsWithinMarkup : LexemeState → Type 0
IsWithinMarkup Text = ⊥
IsWithinMarkup (RawText kind place) = ⊥
IsWithinMarkup CdataSection = Unit {0}
IsWithinMarkup (CharacterReference place) = Unit {0}
IsWithinMarkup TagOpen = Unit {0}
IsWithinMarkup EndTagOpen = Unit {0}
IsWithinMarkup (Tag kind place) = Unit {0}
IsWithinMarkup MarkupDeclarationOpen = Unit {0}
IsWithinMarkup BogusComment = Unit {0}
IsWithinMarkup Comment = Unit {0}
IsWithinMarkup Doctype = Unit {0}

-- A place that text of a kind may have: ordinary text alone has markup, but for the end tags of an element's text. A
-- reference, and a place in an element's text, are asked nothing more.
abbrev pub IsPlaceOf : TextKind → LexemeState → Type 0
IsPlaceOf kind Text = Unit {0}
IsPlaceOf kind (CharacterReference place) = Unit {0}
IsPlaceOf kind (RawText raw place) = Unit {0}
IsPlaceOf kind (Tag tag place) = IsOfTag kind tag
IsPlaceOf kind TagOpen = HasMarkup kind
IsPlaceOf kind EndTagOpen = HasMarkup kind
IsPlaceOf kind MarkupDeclarationOpen = HasMarkup kind
IsPlaceOf kind BogusComment = HasMarkup kind
IsPlaceOf kind Comment = HasMarkup kind
IsPlaceOf kind Doctype = HasMarkup kind
IsPlaceOf kind CdataSection = HasMarkup kind

abbrev pub IsFirstOf : TextKind → First → Type 0
IsFirstOf kind (FirstText c) = Unit {0}
IsFirstOf kind Null = HasMarkup kind
IsFirstOf kind (Opens place) = IsPlaceOf kind place
IsFirstOf kind (OpensRaw raw place) = Unit {0}

-- A further character leads from a place to one in text of the same kind.
abbrev pub KeepsKind : LexemeState → Turn → Type 0
KeepsKind place (Goes at) = (kind : TextKind) → IsPlaceOf kind place → IsPlaceOf kind at
KeepsKind place (Ends at) = (kind : TextKind) → IsPlaceOf kind place → IsPlaceOf kind at
KeepsKind place EndsBefore = Unit {0}
