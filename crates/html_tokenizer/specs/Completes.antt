-- What public contracts say of a tokenizer. These words are whole for those who call it: no proof above
-- this crate unfolds them, so that how a tokenizer holds what it has read may change below them.
use Rattle.std.specs.Prelude.{◌≡◌, ℕ, Bool, false, List, [], ◌∷◌, ◌++◌, Option}
use Rattle.html_lexemes.specs.Queue.{Queue, Takes}
use Rattle.lex_base.specs.References.{References}
use Rattle.html_lexemes.specs.declared.token.TokenSinkResult.TheVariants.{EncodingIndicator as AskedEncoding}
use Rattle.html_lexemes.specs.declared.token.TokenSinkResult.TheVariants.{Script as AskedScript}
use Rattle.token_grammar.specs.Items.{Item}
use Rattle.token_grammar.specs.Meaning.{Meaning}
use Rattle.token_grammar.specs.declared.modes.Mode.{Mode}
use Rattle.token_grammar.specs.declared.modes.TextKind.TheVariants.{Plain}
use Rattle.html_tokenizer.specs.Fits.{IsFitReader}
use Rattle.html_tokenizer.specs.Inside as inside
use Rattle.html_tokenizer.specs.PageRest.{page_rest}
use Rattle.html_tokenizer.specs.Emits.{EmitsOn, EmitsUpTo}
use Rattle.html_tokenizer.specs.declared.results.TokenizerResult.{TokenizerResult}
use Rattle.html_tokenizer.specs.declared.results.TokenizerResult.TheVariants.{Done, Script, EncodingIndicator}
use Rattle.html_tokenizer.specs.declared.tokenizer.Tokenizer.{Tokenizer}

-- it has come to the end, or a call was refused
unfoldable pub has_failed : {S : Type 0} → Tokenizer S → Bool
has_failed tokenizer = tokenizer.is_over

-- Where it has not failed, its sink is ready for what may be emitted, and welcomes it.
unfoldable pub IsFit : {S A : Type 0} → (S → A) → (A → Type 0) → (A → Item → Type 0) → Tokenizer S → Type 0
IsFit state ready welcomes tokenizer =
    tokenizer.is_over ≡ false → IsFitReader ready welcomes tokenizer.reader (state tokenizer.sink)

-- What it was fed with, and a rest of the page, leave its sink in a final state.
unfoldable pub Completes : {S A H : Type 0} → (S → A) → Meaning A H → Tokenizer S → List ℕ → A → Type 0
Completes state means tokenizer rest final = inside.Completes state means tokenizer rest final

-- the text that was read is emitted
unfoldable pub HasEmitted : {S : Type 0} → Tokenizer S → Type 0
HasEmitted tokenizer = inside.HasEmitted tokenizer

-- nothing is held back either
unfoldable pub IsEmptied : {S : Type 0} → Tokenizer S → Type 0
IsEmptied tokenizer = inside.IsEmptied tokenizer

-- no lexeme stands where it is, whatever follows in the page
unfoldable pub IsUndecided : {S : Type 0} → Tokenizer S → Type 0
IsUndecided tokenizer = inside.IsUndecided tokenizer

-- the state is one of text
unfoldable pub is_text_state : {S : Type 0} → Tokenizer S → Bool
is_text_state tokenizer = inside.is_text_state tokenizer

-- no character is held back, and no text waits to be emitted
unfoldable pub nothing_pending : {S : Type 0} → Tokenizer S → Bool
nothing_pending tokenizer = inside.nothing_pending tokenizer

-- its table; the name of the last start tag; and the text of what is left of a page, its line ends as LF
unfoldable pub table_of : {S : Type 0} → Tokenizer S → References
table_of tokenizer = tokenizer.table

unfoldable pub last_start_tag_of : {S : Type 0} → Tokenizer S → Option (List ℕ)
last_start_tag_of tokenizer = tokenizer.reader.mode.last_start_tag

unfoldable pub text_left : {S : Type 0} → Tokenizer S → List ℕ → List ℕ
text_left tokenizer rest = page_rest tokenizer.line_ends rest

-- all that follows is text
abbrev pub plain_mode : Option (List ℕ) → Mode
plain_mode last = record { text = Plain; last_start_tag = last }

-- What a result says of what was emitted: no pause was asked for, or this one, by what was emitted last.
abbrev pub Answers : {A H : Type 0} → Meaning A H → TokenizerResult H → A → A → Type 0
Answers means Done old new = EmitsOn means old new
Answers means (Script handle) old new = EmitsUpTo means (AskedScript handle) old new
Answers means (EncodingIndicator encoding) old new = EmitsUpTo means (AskedEncoding encoding) old new

-- each of the characters was taken from the front, once
abbrev pub TakesEach : Queue → List ℕ → Queue → Type 0
TakesEach old [] new = new ≡ old
TakesEach old (c ∷ cs) new = (next : Queue) × (Takes old (c ∷ []) next × TakesEach next cs new)

pub record TakesSome (old new : Queue) : Type 0 where
  pub taken : List ℕ
  pub takes : TakesEach old taken new

-- The pause is due to the mark that was taken last: what was taken before it leaves a tokenizer that was asked for no
-- pause since its sink was in the state `begun`, and stands where no lexeme is over.
pub record PausesAfter {S A H : Type 0} (state : S → A) (means : Meaning A H) (mark : ℕ) (begun : A)
    (completes : List ℕ → A → Type 0) (old new : Queue) : Type 0 where
  pub taken : List ℕ
  pub takes : TakesEach old (taken ++ mark ∷ []) new
  pub before : Tokenizer S
  pub on : EmitsOn means begun (state before.sink)
  pub undecided : IsUndecided before
  pub reads : (rest : List ℕ) (final : A) → Completes state means before rest final → completes (taken ++ rest) final
