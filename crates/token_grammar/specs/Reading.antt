-- The reading of a page: its lexemes in order, folded with a sink's step, whose answers choose how the text after a
-- tag is read.
use Rattle.std.specs.Prelude.{◌≡◌, ℕ, List, [], ◌∷◌, ◌++◌, fold}
use Rattle.lex_base.specs.References.{References}
use Rattle.html_lexemes.specs.declared.token.TokenSinkResult.TheVariants.{Continue}
use Rattle.token_grammar.specs.Items.{Item, characters, null_character, tag, comment, doctype, error, end_of_file}
use Rattle.token_grammar.specs.Lexemes.{lexeme, nothing, emitted, tagged}
use Rattle.token_grammar.specs.Meaning.{Meaning}
use Rattle.token_grammar.specs.Modes.{next_mode}
use Rattle.token_grammar.specs.declared.modes.Mode.{Mode}
use Rattle.html_lexemes.specs.declared.token.Tag.{Tag}

-- In a mode and from a state of the sink, a text leaves the sink in a state; the end is emitted last.
pub data Reading {A H : Type 0} (table : References) (means : Meaning A H) : Mode → A → List ℕ → A → Type 0 where
  ends : (mode : Mode) (state : A) (cs : List ℕ) (final : A) →
      lexeme table (means.foreign state) mode cs ≡ nothing → final ≡ means.step state end_of_file →
      Reading table means mode state cs final
  goes : (mode : Mode) (state : A) (cs : List ℕ) (items : List Item) (trailing : Mode) (rest : List ℕ) (final : A) →
      lexeme table (means.foreign state) mode cs ≡ emitted items trailing rest →
      Reading table means trailing (fold means.step state items) rest final →
      Reading table means mode state cs final
  tags : (mode : Mode) (state : A) (cs : List ℕ) (t : Tag) (rest : List ℕ) (final : A) →
      lexeme table (means.foreign state) mode cs ≡ tagged t rest →
      Reading table means (next_mode mode t (means.reply state (tag t))) (means.step state (tag t)) rest final →
      Reading table means mode state cs final

-- An error matters to text that begins with a LF, and to an empty text, which changes nothing by itself.
abbrev pub IsAfterError : Item → Type 0
IsAfterError (characters []) = ⊥
IsAfterError (characters (c ∷ cs)) = ¬ (c ≡ 10)
IsAfterError null_character = Unit {0}
IsAfterError (tag t) = Unit {0}
IsAfterError (comment cs) = Unit {0}
IsAfterError (doctype d) = Unit {0}
IsAfterError error = Unit {0}
IsAfterError end_of_file = Unit {0}

abbrev pub IsAnswered : Item → Type 0
IsAnswered (tag t) = Unit {0}
IsAnswered (characters cs) = ⊥
IsAnswered null_character = ⊥
IsAnswered (comment cs) = ⊥
IsAnswered (doctype d) = ⊥
IsAnswered error = ⊥
IsAnswered end_of_file = ⊥

-- What a sink keeps to: texts that follow each other are as one, an empty text changes nothing, a tag alone is
-- answered, what a sink asks for stays, and an error changes at most how a LF right after it is taken.
pub record IsLawful {A H : Type 0} (means : Meaning A H) (ready : A → Type 0) : Type 0 where
  pub joins : (state : A) (cs ds : List ℕ) →
      means.step (means.step state (characters cs)) (characters ds) ≡ means.step state (characters (cs ++ ds))
  pub skips : (state : A) → means.step state (characters []) ≡ state
  pub answers : (state : A) (item : Item) → ¬ (IsAnswered item) → means.reply state item ≡ Continue
  pub keeps : (state : A) (item : Item) → ready state → ready (means.step state item)
  pub forgets : (state : A) (item : Item) → IsAfterError item →
      means.step (means.step state error) item ≡ means.step state item
  pub still_answers : (state : A) (item : Item) → means.reply (means.step state error) item ≡ means.reply state item
  pub still_foreign : (state : A) → means.foreign (means.step state error) ≡ means.foreign state

-- A sink that was given all is notified of the end, once.
abbrev pub IsClosed : {A : Type 0} → (A → A) → (A → Type 0) → A → Type 0
IsClosed {A} close reads closed = (final : A) × (reads final × (closed ≡ close final))
