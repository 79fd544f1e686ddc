-- What a sink of tests asks for: text of a kind after the start tags of three names and the end tags of two, and a
-- pause at two tags.
use Rattle.std.specs.Prelude.{◌≡◌, ℕ, List, if◌then◌else◌, refl}
use Rattle.std.specs.Str.{bytes_eq}
use Rattle.html_lexemes.specs.declared.states.RawKind.TheVariants.{Rcdata, Rawtext, ScriptData}
use Rattle.html_lexemes.specs.declared.token.TagKind.{TagKind}
use Rattle.html_lexemes.specs.declared.token.TagKind.TheVariants.{StartTag, EndTag}
use Rattle.html_lexemes.specs.declared.token.TokenSinkResult.{TokenSinkResult}
use Rattle.html_lexemes.specs.declared.token.TokenSinkResult.TheVariants.{Continue, EncodingIndicator, Plaintext}
use Rattle.html_lexemes.specs.declared.token.TokenSinkResult.TheVariants.{RawData, Script}
use Rattle.token_grammar.specs.Items.{Item, characters, null_character, tag, comment, doctype, error, end_of_file}
use Rattle.token_grammar.specs.Reading.{IsAnswered}

pub record Names : Type 0 where
  pub rcdata : List ℕ
  pub script : List ℕ
  pub plaintext : List ℕ
  pub meta : List ℕ
  pub encoding : List ℕ

abbrev pub asked_by : Names → TagKind → List ℕ → TokenSinkResult ℕ
asked_by names EndTag name =
    if bytes_eq name names.script then Script 7
    else (if bytes_eq name names.plaintext then Plaintext
    else (if bytes_eq name names.meta then RawData Rawtext else Continue))
asked_by names StartTag name =
    if bytes_eq name names.rcdata then RawData Rcdata
    else (if bytes_eq name names.script then RawData ScriptData
    else (if bytes_eq name names.plaintext then Plaintext
    else (if bytes_eq name names.meta then EncodingIndicator names.encoding else Continue)))

abbrev pub asked : Names → Item → TokenSinkResult ℕ
asked names (tag t) = asked_by names t.kind t.name
asked names (characters cs) = Continue
asked names null_character = Continue
asked names (comment cs) = Continue
asked names (doctype d) = Continue
asked names error = Continue
asked names end_of_file = Continue

-- Only a tag is answered.
pub asked-answers : (names : Names) (item : Item) → ¬ (IsAnswered item) → asked names item ≡ Continue
asked-answers names (tag t) not_answered = absurd (not_answered tt)
asked-answers names (characters cs) not_answered = refl
asked-answers names null_character not_answered = refl
asked-answers names (comment cs) not_answered = refl
asked-answers names (doctype d) not_answered = refl
asked-answers names error not_answered = refl
asked-answers names end_of_file not_answered = refl
