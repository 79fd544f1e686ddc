-- What is written of a document (WHATWG HTML, 13.3, "serializing HTML fragments"), and when it is read back.
use Rattle.std.specs.Prelude.{◌≡◌, ℕ, Bool, false, List, [], ◌∷◌, ◌++◌, Option, None, Some, codes, if◌then◌else◌}
use Rattle.tree_forest.specs.Forest.{is_in}
use Rattle.html_tree_builder.specs.Defaults.{default_parse}
use Rattle.html_tree_builder.specs.declared.options.ParseOpts.{ParseOpts}
use Rattle.token_grammar.specs.Items.{Item, characters, comment, doctype, end_of_file, error, null_character, tag}
use Rattle.token_grammar.specs.Meaning.{Meaning}
use Rattle.html_lexemes.specs.declared.names.Attribute.{Attribute}
use Rattle.html_lexemes.specs.declared.states.RawKind.TheVariants.{Rcdata}
use Rattle.html_lexemes.specs.declared.token.TagKind.{TagKind}
use Rattle.html_lexemes.specs.declared.token.TokenSinkResult.{TokenSinkResult}
use Rattle.html_lexemes.specs.declared.token.TokenSinkResult.TheVariants.{Continue, RawData}
use Rattle.tree_serializer.specs.Escapes.{end_text, escaped, start_text}
use Rattle.tree_names.specs.Sets.{is_one_of}
use Rattle.document_laws.specs.Asked.{opens_title}
use Rattle.document_laws.specs.Contents.{Content, none, say, span}
use Rattle.document_laws.specs.Planted.{of_html}

-- ---- the written form

-- of the void elements a document has `br` alone
abbrev pub is_void : List ℕ → Bool
is_void name = is_one_of (codes "br" ∷ []) name

abbrev pub content_text : Content → List ℕ
content_text none = []
content_text (say c cs rest) = escaped false (c ∷ cs) ++ content_text rest
content_text (span name attributes kids rest) = start_text (of_html name) attributes
    ++ ((if is_void name then [] else content_text kids ++ end_text (of_html name)) ++ content_text rest)

abbrev pub title_text : Option (List ℕ) → List ℕ
title_text None = []
title_text (Some title) = codes "<title>" ++ escaped false title ++ codes "</title>"

abbrev pub document_text : Option (List ℕ) → Content → List ℕ
document_text title content = codes "<!DOCTYPE html><html><head>" ++ (title_text title ++ (codes "</head><body>"
    ++ (content_text content ++ codes "</body></html>")))

-- ---- which characters stand in it

-- a character stands in none of the values of attributes; in no text and no value; and not in the title
abbrev pub AreWithout : ℕ → List Attribute → Type 0
AreWithout c [] = Unit {0}
AreWithout c (a ∷ attributes) = (is_in c a.value ≡ false) × AreWithout c attributes

abbrev pub IsWithout : ℕ → Content → Type 0
IsWithout c none = Unit {0}
IsWithout c (say d ds rest) = (is_in c (d ∷ ds) ≡ false) × IsWithout c rest
IsWithout c (span name attributes kids rest) =
    AreWithout c attributes × (IsWithout c kids × IsWithout c rest)

abbrev pub IsTitleWithout : ℕ → Option (List ℕ) → Type 0
IsTitleWithout c None = Unit {0}
IsTitleWithout c (Some title) = is_in c title ≡ false

-- NUL is not read back: it is passed over or becomes U+FFFD (13.2.5)
abbrev pub HoldsNoNul : Option (List ℕ) → Content → Type 0
HoldsNoNul title content = IsTitleWithout 0 title × IsWithout 0 content

-- CR is not either: it becomes a LF, or goes before one (13.2.3.5)
abbrev pub HoldsNoReturn : Option (List ℕ) → Content → Type 0
HoldsNoReturn title content = IsTitleWithout 13 title × IsWithout 13 content

-- ---- what a sink has to reply

-- to the start tag of a title that its text is RCDATA (13.2.6.4.4), to other tags nothing
abbrev pub wanted_by : {H : Type 0} → TagKind → List ℕ → TokenSinkResult H
wanted_by kind name = if opens_title kind name then RawData Rcdata else Continue

abbrev pub IsRepliedTo : {A H : Type 0} → Meaning A H → A → Item → Type 0
IsRepliedTo means state (tag t) = means.reply state (tag t) ≡ wanted_by t.kind t.name
IsRepliedTo means state (characters cs) = Unit {0}
IsRepliedTo means state null_character = Unit {0}
IsRepliedTo means state (comment cs) = Unit {0}
IsRepliedTo means state (doctype d) = Unit {0}
IsRepliedTo means state error = Unit {0}
IsRepliedTo means state end_of_file = Unit {0}

abbrev pub AreRepliedTo : {A H : Type 0} → Meaning A H → A → List Item → Type 0
AreRepliedTo means state [] = Unit {0}
AreRepliedTo means state (item ∷ items) =
    IsRepliedTo means state item × AreRepliedTo means (means.step state item) items

-- Pages are parsed as by default, with scripting or without it (13.2.4.5).
abbrev pub scripted_parse : (scripting : Bool) → ParseOpts
scripted_parse scripting = record default_parse {
  tree_builder = record default_parse.tree_builder { scripting_enabled = scripting };
}
