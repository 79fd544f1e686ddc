-- Words of the worked rows: the items that a page gives to a sink that always goes on, with neighbouring texts joined
-- and errors left out.
use Rattle.std.specs.Prelude.{ℕ, zero, suc, Bool, true, false, List, [], ◌∷◌, ◌++◌, codes, Option, Some, None}
use Rattle.lex_base.specs.References.{Reference, References, references}
use Rattle.html_lexemes.specs.declared.names.Attribute.{Attribute}
use Rattle.html_lexemes.specs.declared.states.AttrValueKind.{AttrValueKind}
use Rattle.html_lexemes.specs.declared.states.DoctypeIdKind.{DoctypeIdKind}
use Rattle.html_lexemes.specs.declared.states.RawKind.{RawKind}
use Rattle.html_lexemes.specs.declared.states.ScriptEscapeKind.{ScriptEscapeKind}
use Rattle.html_lexemes.specs.declared.states.State.{State}
use Rattle.html_lexemes.specs.declared.states.State.TheVariants as states
use Rattle.html_lexemes.specs.declared.token.Tag.{Tag}
use Rattle.html_lexemes.specs.declared.token.TagKind.TheVariants.{StartTag, EndTag}
use Rattle.html_lexemes.specs.declared.token.TokenSinkResult.{TokenSinkResult}
use Rattle.html_lexemes.specs.declared.token.TokenSinkResult.TheVariants.{Continue}
use Rattle.token_grammar.specs.Items.{Item, characters, tag, doctype, error}
use Rattle.token_grammar.specs.Lexemes.{Lexeme, lexeme, nothing, emitted, tagged}
use Rattle.token_grammar.specs.Modes.{next_mode}
use Rattle.token_grammar.specs.References.{Found}
use Rattle.token_grammar.specs.declared.modes.Mode.{Mode}
use Rattle.token_grammar.specs.declared.modes.TextKind.{TextKind}
use Rattle.token_grammar.specs.declared.sink.TokenizerOpts.{TokenizerOpts}
use Rattle.token_grammar.specs.declared.modes.TextKind.TheVariants.{Ordinary, Raw}

abbrev pub going_on : TokenSinkResult ℕ
going_on = Continue

abbrev pub items_of_lexeme : (Mode → List ℕ → List Item) → Mode → Lexeme → List Item
items_of_lexeme further mode nothing = []
items_of_lexeme further mode (emitted items trailing rest) = items ++ further trailing rest
items_of_lexeme further mode (tagged t rest) = tag t ∷ further (next_mode mode t going_on) rest

-- at most so many lexemes
abbrev pub items_from : References → Bool → ℕ → Mode → List ℕ → List Item
items_from table foreign zero mode cs = []
items_from table foreign (suc n) mode cs =
    items_of_lexeme (items_from table foreign n) mode (lexeme table foreign mode cs)

abbrev pub with_characters : List ℕ → List Item → List Item
with_characters cs [] = characters cs ∷ []
with_characters cs (characters ds ∷ items) = characters (cs ++ ds) ∷ items
with_characters cs (item ∷ items) = characters cs ∷ item ∷ items

abbrev pub joined : List Item → List Item
joined [] = []
joined (characters cs ∷ items) = with_characters cs (joined items)
joined (error ∷ items) = joined items
joined (item ∷ items) = item ∷ joined items

abbrev pub ordinary_mode : Mode
ordinary_mode = record { text = Ordinary; last_start_tag = None }

abbrev pub mode_in : TextKind → List ℕ → Mode
mode_in kind name = record { text = kind; last_start_tag = Some name }

abbrev pub start : List ℕ → List Attribute → Item
start name attributes =
    tag (record {
      kind = StartTag;
      name = name;
      self_closing = false;
      attrs = attributes;
      had_duplicate_attributes = false;
    })

abbrev pub end : List ℕ → Item
end name =
    tag (record { kind = EndTag; name = name; self_closing = false; attrs = []; had_duplicate_attributes = false })

abbrev pub quirky : Option (List ℕ) → Item
quirky name = doctype (record { name = name; public_id = None; system_id = None; force_quirks = true })

-- a page, and the text of an element with a name, whose start tag was the last
abbrev pub page_items : References → List ℕ → List Item
page_items table cs = joined (items_from table false 60 ordinary_mode cs)

abbrev pub element_items : References → RawKind → List ℕ → List ℕ → List Item
element_items table kind name cs = joined (items_from table false 60 (mode_in (Raw kind) name) cs)

-- a start tag with a `/` directly before its `>`
abbrev pub self_closed : List ℕ → List Attribute → Item
self_closed name attributes =
    tag (record {
      kind = StartTag;
      name = name;
      self_closing = true;
      attrs = attributes;
      had_duplicate_attributes = false;
    })

-- an end tag, and whether it is self-closing
abbrev pub end_tag : List ℕ → List Attribute → Bool → Tag
end_tag name attributes closing =
    record { kind = EndTag; name = name; self_closing = closing; attrs = attributes; had_duplicate_attributes = false }

-- a doctype with a name, its identifiers, and whether it sets the flag
abbrev pub doctype_with : List ℕ → Option (List ℕ) → Option (List ℕ) → Bool → Item
doctype_with name public_id system_id quirks =
    doctype (record { name = Some name; public_id = public_id; system_id = system_id; force_quirks = quirks })

-- some names of the standard's table (WHATWG HTML, 13.5), of which one begins another
abbrev pub few_names : List Reference
few_names =
    (codes "not", 0xAC ∷ []) ∷ (codes "notin;", 0x2209 ∷ []) ∷ (codes "amp", 38 ∷ []) ∷ (codes "amp;", 38 ∷ []) ∷ []

abbrev pub few : References
few = references few_names

abbrev pub found : List ℕ → Bool → List ℕ → Option Found
found cs closed rest = Some (record { characters = cs; closed = closed; rest = rest })

-- options with an initial state and the name of the last start tag
abbrev pub opts_of : Option State → Option (List ℕ) → TokenizerOpts
opts_of state name =
    record { exact_errors = false; discard_bom = true; initial_state = state; last_start_tag_name = name }

-- the states of markup, and those within the text of an element: all but three
abbrev pub markup_states : RawKind → ScriptEscapeKind → DoctypeIdKind → AttrValueKind → List State
markup_states raw escape identifier value =
    states.TagOpen ∷ states.EndTagOpen ∷ states.TagName ∷ states.RawLessThanSign raw ∷ states.RawEndTagOpen raw
    ∷ states.RawEndTagName raw ∷ states.ScriptDataEscapeStart escape ∷ states.ScriptDataEscapeStartDash
    ∷ states.ScriptDataEscapedDash escape ∷ states.ScriptDataEscapedDashDash escape ∷ states.ScriptDataDoubleEscapeEnd
    ∷ states.BeforeAttributeName ∷ states.AttributeName ∷ states.AfterAttributeName ∷ states.BeforeAttributeValue
    ∷ states.AttributeValue value ∷ states.AfterAttributeValueQuoted ∷ states.SelfClosingStartTag ∷ states.BogusComment
    ∷ states.MarkupDeclarationOpen ∷ states.CommentStart ∷ states.CommentStartDash ∷ states.Comment
    ∷ states.CommentLessThanSign ∷ states.CommentLessThanSignBang ∷ states.CommentLessThanSignBangDash
    ∷ states.CommentLessThanSignBangDashDash ∷ states.CommentEndDash ∷ states.CommentEnd ∷ states.CommentEndBang
    ∷ states.Doctype ∷ states.BeforeDoctypeName ∷ states.DoctypeName ∷ states.AfterDoctypeName
    ∷ states.AfterDoctypeKeyword identifier ∷ states.BeforeDoctypeIdentifier identifier
    ∷ states.DoctypeIdentifierDoubleQuoted identifier ∷ states.DoctypeIdentifierSingleQuoted identifier
    ∷ states.AfterDoctypeIdentifier identifier ∷ states.BetweenDoctypePublicAndSystemIdentifiers ∷ states.BogusDoctype
    ∷ states.CdataSection ∷ states.CdataSectionBracket ∷ states.CdataSectionEnd ∷ []
