-- What was emitted between two states of a sink.
use Rattle.std.specs.Prelude.{◌≡◌, false, List, [], ◌∷◌, Option, Some, None}
use Rattle.html_lexemes.specs.declared.token.Tag.{Tag}
use Rattle.html_lexemes.specs.declared.token.TokenSinkResult.{TokenSinkResult}
use Rattle.html_lexemes.specs.declared.token.TokenSinkResult.TheVariants.{EncodingIndicator as AskedEncoding}
use Rattle.html_lexemes.specs.declared.token.TokenSinkResult.TheVariants.{Script as AskedScript}
use Rattle.token_grammar.specs.Items.{Item, tag}
use Rattle.token_grammar.specs.Meaning.{Meaning}
use Rattle.token_grammar.specs.Modes.{is_pause}
use Rattle.token_grammar.specs.Reading.{IsAfterError, IsAnswered}
use Rattle.html_tokenizer.specs.declared.reader.Pause.{Pause}
use Rattle.html_tokenizer.specs.declared.reader.Pause.TheVariants.{Script, EncodingIndicator}

-- Items in order, none of which is answered by asking for a pause.
pub data EmitsOn {A H : Type 0} (means : Meaning A H) : A → A → Type 0 where
  emitted_none : (state : A) → EmitsOn means state state
  emitted_one : (state : A) (item : Item) (final : A) → is_pause (means.reply state item) ≡ false →
      EmitsOn means (means.step state item) final → EmitsOn means state final

-- Such items, and then a tag that is answered by asking for a pause.
pub record EmitsUpTo {A H : Type 0} (means : Meaning A H) (answer : TokenSinkResult H) (old new : A) : Type 0 where
  pub before : A
  pub asking : Tag
  pub on : EmitsOn means old before
  pub asked : means.reply before (tag asking) ≡ answer
  pub emitted : new ≡ means.step before (tag asking)

-- what a pause is asked for by
abbrev pub answer_of : {H : Type 0} → Pause H → TokenSinkResult H
answer_of (Script handle) = AskedScript handle
answer_of (EncodingIndicator encoding) = AskedEncoding encoding

abbrev pub IsPauseOf : {H : Type 0} → TokenSinkResult H → Option (Pause H) → Type 0
IsPauseOf answer None = is_pause answer ≡ false
IsPauseOf answer (Some pause) = answer ≡ answer_of pause

-- No pause is asked for, or this one, by what is emitted last.
abbrev pub Asks : {A H : Type 0} → Meaning A H → Option (Pause H) → A → A → Type 0
Asks means None old new = EmitsOn means old new
Asks means (Some pause) old new = EmitsUpTo means (answer_of pause) old new

-- no tag
abbrev pub AreUnanswered : List Item → Type 0
AreUnanswered [] = Unit {0}
AreUnanswered (item ∷ items) = (¬ (IsAnswered item)) × AreUnanswered items

-- an error right before the first of some items changes nothing
abbrev pub IsFirstAfterError : List Item → Type 0
IsFirstAfterError [] = ⊥
IsFirstAfterError (item ∷ items) = IsAfterError item

-- Errors alone were emitted: what may follow them does the same to the sink.
pub record IsAlike {A H : Type 0} (means : Meaning A H) (old new : A) : Type 0 where
  pub steps : (item : Item) → IsAfterError item → means.step new item ≡ means.step old item
  pub replies : (item : Item) → means.reply new item ≡ means.reply old item
  pub foreigns : means.foreign new ≡ means.foreign old
