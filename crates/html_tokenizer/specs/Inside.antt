-- What the contracts of a tokenizer's own functions say of it.
use Rattle.std.specs.Prelude.{◌≡◌, ℕ, Bool, ◌&&◌, ◌==◌, List, [], ◌++◌, length, IsTrue, string_bytes}
use Rattle.lex_base.specs.References.{References}
use Rattle.token_grammar.specs.Lexemes.{Lexeme}
use Rattle.token_grammar.specs.Meaning.{Meaning}
use Rattle.html_tokenizer.specs.Holdings.{HoldsNothing, held_of}
use Rattle.token_states.specs.MarkupSound.{is_begun_section_end}
use Rattle.html_tokenizer.specs.PageRest.{page_rest}
use Rattle.token_states.specs.PlaceKinds.{is_of_text, is_open}
use Rattle.token_states.specs.Places.{place_lexeme}
use Rattle.html_tokenizer.specs.Reads.{Reads}
use Rattle.token_states.specs.Turns.{with_more}
use Rattle.token_states.specs.declared.place.LexemeState.TheVariants.{CdataSection}
use Rattle.html_tokenizer.specs.declared.line_ends.LineEnds.{LineEnds}
use Rattle.html_tokenizer.specs.declared.reader.Pause.{Pause}
use Rattle.html_tokenizer.specs.declared.reader.Reader.{Reader}
use Rattle.html_tokenizer.specs.declared.reader.Pause.TheVariants.{EncodingIndicator as PauseEncoding}
use Rattle.html_tokenizer.specs.declared.reader.Pause.TheVariants.{Script as PauseScript}
use Rattle.html_tokenizer.specs.declared.results.TokenizerResult.{TokenizerResult}
use Rattle.html_tokenizer.specs.declared.results.TokenizerResult.TheVariants.{Script, EncodingIndicator}
use Rattle.html_tokenizer.specs.declared.tokenizer.Tokenizer.{Tokenizer}

-- What it was fed with, and a rest of the page, leave its sink in a final state.
abbrev pub Completes : {S A H : Type 0} → (S → A) → Meaning A H → Tokenizer S → List ℕ → A → Type 0
Completes state means tokenizer rest final =
    Reads tokenizer.table means tokenizer.reader (state tokenizer.sink) (page_rest tokenizer.line_ends rest) final

-- the text that was read is emitted
abbrev pub HasEmitted : {S : Type 0} → Tokenizer S → Type 0
HasEmitted tokenizer = string_bytes tokenizer.reader.run ≡ []

-- nothing is held back either
abbrev pub IsEmptied : {S : Type 0} → Tokenizer S → Type 0
IsEmptied tokenizer = HoldsNothing tokenizer.reader

-- No lexeme stands where the tokenizer is whatever follows in the page; of a CDATA section at most a beginning of `]]>`
-- is held back.
pub record IsUndecidedAt (table : References) (ends : LineEnds) (reader : Reader) : Type 0 where
  pub lexeme : (foreign : Bool) (l : Lexeme) →
      ((page : List ℕ) →
      place_lexeme table foreign reader.mode reader.pending.place (held_of reader ++ page_rest ends page)
      ≡ with_more (page_rest ends page) l) → ⊥
  pub section : reader.pending.place ≡ CdataSection → IsTrue (is_begun_section_end (held_of reader))

abbrev pub IsUndecided : {S : Type 0} → Tokenizer S → Type 0
IsUndecided tokenizer = IsUndecidedAt tokenizer.table tokenizer.line_ends tokenizer.reader

-- the result that a pause is
abbrev pub result_of : {H : Type 0} → Pause H → TokenizerResult H
result_of (PauseScript handle) = Script handle
result_of (PauseEncoding encoding) = EncodingIndicator encoding

-- the state is one of text
abbrev pub is_text_state : {S : Type 0} → Tokenizer S → Bool
is_text_state tokenizer = is_of_text tokenizer.reader.pending.place

-- no character is held back, and no text waits to be emitted
abbrev pub nothing_pending : {S : Type 0} → Tokenizer S → Bool
nothing_pending tokenizer =
    is_open tokenizer.reader.pending.place && length (string_bytes tokenizer.reader.pending.held) == 0
    && length (string_bytes tokenizer.reader.run) == 0
