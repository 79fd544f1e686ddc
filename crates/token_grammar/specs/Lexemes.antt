-- The grammar of a page's text (WHATWG HTML, 13.2.5): what stands first in a text, by slices of it.
use Rattle.std.specs.Prelude.{◌==◌, ◌&&◌, if◌then◌else◌, [], ◌∷◌, ◌++◌, Bool, List, None, Option, Some, codes, drop}
use Rattle.std.specs.Prelude.{false, length, map, nat_lt, true, ℕ}
use Rattle.std.specs.Str.{bytes_eq}
use Rattle.lex_base.specs.References.{References}
use Rattle.html_lexemes.specs.declared.states.RawKind.{RawKind}
use Rattle.html_lexemes.specs.declared.states.RawKind.TheVariants.{Rcdata, Rawtext, ScriptData, ScriptDataEscaped}
use Rattle.html_lexemes.specs.declared.states.ScriptEscapeKind.TheVariants.{Escaped, DoubleEscaped}
use Rattle.html_lexemes.specs.declared.token.Tag.{Tag}
use Rattle.html_lexemes.specs.declared.token.TagKind.TheVariants.{StartTag, EndTag}
use Rattle.token_grammar.specs.Characters.{is_letter, name_of, shown, shown_text}
use Rattle.token_grammar.specs.Comments.{bogus_comment_slice, comment_slice}
use Rattle.token_grammar.specs.Doctypes.{DoctypeEnd, doctype_at}
use Rattle.token_grammar.specs.Items.{Item, characters, comment, doctype, error, null_character}
use Rattle.token_grammar.specs.declared.modes.Mode.{Mode}
use Rattle.token_grammar.specs.declared.modes.TextKind.{TextKind}
use Rattle.token_grammar.specs.declared.modes.TextKind.TheVariants.{Ordinary, Plain, Raw}
use Rattle.token_grammar.specs.References.{Found, reference}
use Rattle.token_grammar.specs.Slices.{Cut, after, begins, begins_word, cut, cut_or_all, first_passes, front_while}
use Rattle.token_grammar.specs.Slices.{rest_while}
use Rattle.token_grammar.specs.Tags.{ends_tag_name, tag_at}

-- nothing, at the end and in a tag that the end cuts off; some items, with the mode of what follows; or a tag, whose
-- sink chooses that mode
pub data Lexeme : Type 0 where
  nothing : Lexeme
  emitted : List Item → Mode → List ℕ → Lexeme
  tagged : Tag → List ℕ → Lexeme

abbrev pub one_character : Mode → ℕ → List ℕ → Lexeme
one_character mode c rest = emitted (characters (c ∷ []) ∷ []) mode rest

-- Ordinary text (13.2.5.1): a NUL is an item of its own.
abbrev pub ordinary_item : ℕ → Item
ordinary_item c = if c == 0 then null_character else characters (c ∷ [])

-- A reference in text (13.2.5.72): without its semicolon it is an error, emitted before its characters. Without a
-- reference `&` is text.
abbrev pub error_unless : Bool → List Item
error_unless true = []
error_unless false = error ∷ []

abbrev pub reference_lexeme : Mode → List ℕ → Option Found → Lexeme
reference_lexeme mode cs None = one_character mode 38 cs
reference_lexeme mode cs (Some found) =
    emitted (error_unless found.closed ++ characters found.characters ∷ []) mode found.rest

abbrev pub tag_lexeme : Option (Tag × List ℕ) → Lexeme
tag_lexeme None = nothing
tag_lexeme (Some read) = tagged read.0 read.1

abbrev pub comment_lexeme : Mode → Cut → Lexeme
comment_lexeme mode cut = emitted (comment (shown_text cut.slice) ∷ []) mode cut.rest

abbrev pub doctype_lexeme : Mode → DoctypeEnd → Lexeme
doctype_lexeme mode end = emitted (doctype end.doctype ∷ []) mode end.rest

-- Text up to `]]>` or the end (13.2.5.69).
abbrev pub cdata_lexeme : Mode → Cut → Lexeme
cdata_lexeme mode cut = emitted (map ordinary_item cut.slice) mode cut.rest

-- after `</` (13.2.5.7): a letter opens a tag, `>` ends nothing, another character opens a bogus comment; at the end
-- `<` is text
abbrev pub after_slash : References → Mode → List ℕ → Lexeme
after_slash table mode [] = one_character mode 60 (codes "/")
after_slash table mode (c ∷ cs) =
    if is_letter c then tag_lexeme (tag_at table EndTag (c ∷ cs))
    else (if c == 62 then emitted (error ∷ []) mode cs else comment_lexeme mode (bogus_comment_slice (c ∷ cs)))

-- after `<!` (13.2.5.42)
abbrev pub declaration : Bool → Mode → List ℕ → Lexeme
declaration foreign mode cs =
    if begins (codes "--") cs then comment_lexeme mode (comment_slice (drop 2 cs))
    else (if begins_word (codes "doctype") cs then doctype_lexeme mode (doctype_at (drop 7 cs))
    else (if foreign && begins (codes "[CDATA[") cs then
    cdata_lexeme mode (cut_or_all (cut (after (codes "]]>")) (drop 7 cs)) (drop 7 cs))
    else comment_lexeme mode (bogus_comment_slice cs)))

-- after `<` in ordinary text (13.2.5.6)
abbrev pub markup : References → Bool → Mode → List ℕ → Lexeme
markup table foreign mode [] = one_character mode 60 []
markup table foreign mode (c ∷ cs) =
    if is_letter c then tag_lexeme (tag_at table StartTag (c ∷ cs))
    else (if c == 47 then after_slash table mode cs
    else (if c == 33 then declaration foreign mode cs
    else (if c == 63 then comment_lexeme mode (bogus_comment_slice (c ∷ cs)) else one_character mode 60 (c ∷ cs))))

abbrev pub ordinary_lexeme : References → Bool → Mode → ℕ → List ℕ → Lexeme
ordinary_lexeme table foreign mode c cs =
    if c == 60 then markup table foreign mode cs
    else (if c == 38 then reference_lexeme mode cs (reference table cs) else emitted (ordinary_item c ∷ []) mode cs)

-- the end tag of an element's text, after `<`: `/`, letters that are the last start tag's name, and the end of a name
-- (13.2.5.11)
abbrev pub is_last : Option (List ℕ) → List ℕ → Bool
is_last None name = false
is_last (Some last) name = bytes_eq last name

abbrev pub named_end_tag : Option (List ℕ) → List ℕ → List ℕ → Bool
named_end_tag last letters rest = nat_lt 0 (length letters) && is_last last (name_of letters)
    && first_passes ends_tag_name rest

abbrev pub ends_raw_text : Option (List ℕ) → List ℕ → Bool
ends_raw_text last cs =
    begins (codes "/") cs && named_end_tag last (front_while is_letter (drop 1 cs)) (rest_while is_letter (drop 1 cs))

-- In script data `<!--` begins an escaped part, which `-->` ends; in it `<script` begins a double escaped part, which
-- `</script` ends (13.2.5.18 to 13.2.5.31). Each is one character of text, after which the other kind of text begins.
abbrev pub begins_tag : List ℕ → List ℕ → Bool
begins_tag word cs = begins_word word cs && first_passes ends_tag_name (drop (length word) cs)

abbrev pub kind_after : RawKind → List ℕ → RawKind
kind_after Rcdata cs = Rcdata
kind_after Rawtext cs = Rawtext
kind_after ScriptData cs = if begins (codes "<!--") cs then ScriptDataEscaped Escaped else ScriptData
kind_after (ScriptDataEscaped Escaped) cs =
    if begins (codes "-->") cs then ScriptData
    else (if begins_tag (codes "<script") cs then ScriptDataEscaped DoubleEscaped else ScriptDataEscaped Escaped)
kind_after (ScriptDataEscaped DoubleEscaped) cs =
    if begins (codes "-->") cs then ScriptData
    else (if begins_tag (codes "</script") cs then ScriptDataEscaped Escaped else ScriptDataEscaped DoubleEscaped)

abbrev pub has_references : RawKind → Bool
has_references Rcdata = true
has_references Rawtext = false
has_references ScriptData = false
has_references (ScriptDataEscaped kind) = false

abbrev pub has_end_tags : RawKind → Bool
has_end_tags Rcdata = true
has_end_tags Rawtext = true
has_end_tags ScriptData = true
has_end_tags (ScriptDataEscaped Escaped) = true
has_end_tags (ScriptDataEscaped DoubleEscaped) = false

abbrev pub in_kind : Mode → RawKind → Mode
in_kind mode kind = record mode { text = Raw kind }

abbrev pub raw_lexeme : References → RawKind → Mode → ℕ → List ℕ → Lexeme
raw_lexeme table kind mode c cs =
    if c == 60 && has_end_tags kind && ends_raw_text mode.last_start_tag cs then
    tag_lexeme (tag_at table EndTag (drop 1 cs))
    else (if c == 38 && has_references kind then reference_lexeme mode cs (reference table cs)
    else one_character (in_kind mode (kind_after kind (c ∷ cs))) (shown c) cs)

abbrev pub lexeme_in : References → Bool → TextKind → Mode → ℕ → List ℕ → Lexeme
lexeme_in table foreign Ordinary mode c cs = ordinary_lexeme table foreign mode c cs
lexeme_in table foreign Plain mode c cs = one_character mode (shown c) cs
lexeme_in table foreign (Raw kind) mode c cs = raw_lexeme table kind mode c cs

-- What stands first in a text; `foreign` says that the adjusted current node is foreign.
abbrev pub lexeme : References → Bool → Mode → List ℕ → Lexeme
lexeme table foreign mode [] = nothing
lexeme table foreign mode (c ∷ cs) = lexeme_in table foreign mode.text mode c cs
