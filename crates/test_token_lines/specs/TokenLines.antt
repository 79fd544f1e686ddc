-- What a tokenizer emits, as lines. A line is a word and its fields, each after a tab and with escapes:
--   text TEXT                                  of all the characters that follow each other
--   null                                       of a NUL in text
--   comment TEXT
--   start NAME self-closing? duplicates?       and so `end`; then each attribute: attribute NAME VALUE
--   doctype NAME PUBLIC SYSTEM quirks?         `\N` for what is missing
--   error LINE MESSAGE
-- where `-` stands for a word that does not hold.
use Rattle.std.specs.Prelude.{[], ◌∷◌, ◌++◌, if◌then◌else◌, Bool, List, None, Option, Some, chars, codes, flat_map}
use Rattle.std.specs.Prelude.{string_bytes, ℕ}
use Rattle.std.specs.Fmt.{decimal}
use Rattle.html_lexemes.specs.declared.names.Attribute.{Attribute}
use Rattle.html_lexemes.specs.declared.token.Doctype.{Doctype}
use Rattle.html_lexemes.specs.declared.token.Tag.{Tag}
use Rattle.html_lexemes.specs.declared.token.TagKind.{TagKind}
use Rattle.html_lexemes.specs.declared.token.TagKind.TheVariants.{StartTag, EndTag}
use Rattle.html_lexemes.specs.declared.token.Token.{Token}
use Rattle.html_lexemes.specs.declared.token.Token.TheVariants.{CharacterTokens, CommentToken, DoctypeToken, EOFToken}
use Rattle.html_lexemes.specs.declared.token.Token.TheVariants.{NullCharacterToken, ParseError, TagToken}
use Rattle.test_fields.specs.Escapes.{field_of}
use Rattle.test_token_lines.specs.declared.token_lines.TokenLines.{TokenLines}

abbrev pub field : List ℕ → List ℕ
field cs = 9 ∷ field_of cs

-- of a text that may be missing
abbrev pub field_if_given : Option (List ℕ) → List ℕ
field_if_given None = 9 ∷ codes "\\N"
field_if_given (Some cs) = field cs

-- a word where something holds
abbrev pub flag : Bool → List ℕ → List ℕ
flag holds word = if holds then field word else field (codes "-")

abbrev pub line : List ℕ → List ℕ → List ℕ
line word fields = word ++ (fields ++ 10 ∷ [])

abbrev pub text_line : List ℕ → List ℕ
text_line [] = []
text_line (c ∷ cs) = line (codes "text") (field (c ∷ cs))

abbrev pub null_line : List ℕ
null_line = line (codes "null") []

abbrev pub comment_line : List ℕ → List ℕ
comment_line cs = line (codes "comment") (field cs)

abbrev pub attribute_line : Attribute → List ℕ
attribute_line a = line (codes "attribute") (field a.name.local ++ field a.value)

abbrev pub kind_word : TagKind → List ℕ
kind_word StartTag = codes "start"
kind_word EndTag = codes "end"

abbrev pub tag_line : Tag → List ℕ
tag_line t = line (kind_word t.kind)
    (field t.name
    ++ (flag t.self_closing (codes "self-closing") ++ flag t.had_duplicate_attributes (codes "duplicates")))

abbrev pub tag_lines : Tag → List ℕ
tag_lines t = tag_line t ++ flat_map attribute_line t.attrs

abbrev pub doctype_line : Doctype → List ℕ
doctype_line d = line (codes "doctype")
    (field_if_given d.name
    ++ (field_if_given d.public_id ++ (field_if_given d.system_id ++ flag d.force_quirks (codes "quirks"))))

-- of an error, emitted at a line of the page
abbrev pub error_line : List ℕ → ℕ → List ℕ
error_line message number = line (codes "error") ((9 ∷ decimal number) ++ field message)

-- What is emitted gives parts: characters, which go on in the next part where that has characters too, or whole lines.
pub data Part : Type 0 where
  says : List ℕ → Part
  shows : List ℕ → Part

abbrev pub parts_of : Token → List Part
parts_of (DoctypeToken d) = shows (doctype_line d) ∷ []
parts_of (TagToken t) = shows (tag_lines t) ∷ []
parts_of (CommentToken cs) = shows (comment_line cs) ∷ []
parts_of (CharacterTokens cs) = says cs ∷ []
parts_of NullCharacterToken = shows null_line ∷ []
parts_of EOFToken = []
parts_of (ParseError message) = []

-- the lines of characters that parts follow
abbrev pub lines_from : List ℕ → List Part → List ℕ
lines_from said [] = text_line said
lines_from said (says cs ∷ parts) = lines_from (said ++ cs) parts
lines_from said (shows lines ∷ parts) = text_line said ++ (lines ++ lines_from [] parts)

abbrev pub lines_of_parts : List Part → List ℕ
lines_of_parts parts = lines_from [] parts

-- the lines of some tokens
abbrev pub lines_of : List Token → List ℕ
lines_of tokens = lines_of_parts (flat_map parts_of tokens)

-- the lines of what was emitted, and of parts that follow it
abbrev pub lines_with : TokenLines → List Part → List ℕ
lines_with kept parts = chars (string_bytes kept.lines) ++ lines_from (chars (string_bytes kept.text)) parts
