-- What a text that goes on does to a sink, from what was read of it.
use Rattle.std.specs.Prelude.{◌≡◌, ℕ, List, ◌++◌, chars, string_bytes, fold}
use Rattle.lex_base.specs.References.{References}
use Rattle.token_grammar.specs.Items.{characters, end_of_file, tag}
use Rattle.token_grammar.specs.Lexemes.{Lexeme, nothing, emitted, tagged}
use Rattle.token_grammar.specs.Meaning.{Meaning}
use Rattle.token_grammar.specs.Modes.{next_mode}
use Rattle.token_grammar.specs.Reading.{Reading}
use Rattle.token_grammar.specs.declared.modes.Mode.{Mode}
use Rattle.token_states.specs.Places.{place_lexeme}
use Rattle.token_states.specs.declared.place.LexemeState.{LexemeState}
use Rattle.html_tokenizer.specs.declared.reader.Reader.{Reader}

-- A lexeme in a mode, and the reading of what follows it, leave the sink in a final state.
abbrev pub Follows : {A H : Type 0} → References → Meaning A H → Mode → Lexeme → A → A → Type 0
Follows table means mode nothing state final = final ≡ means.step state end_of_file
Follows table means mode (emitted items trailing rest) state final =
    Reading table means trailing (fold means.step state items) rest final
Follows table means mode (tagged t rest) state final =
    Reading table means (next_mode mode t (means.reply state (tag t))) (means.step state (tag t)) rest final

-- What stands at a place does.
abbrev pub Leaves : {A H : Type 0} → References → Meaning A H → Mode → LexemeState → List ℕ → A → A → Type 0
Leaves table means mode place cs state final =
    Follows table means mode (place_lexeme table (means.foreign state) mode place cs) state final

-- the sink's state once the text that was read is emitted
abbrev pub state_of : {A H : Type 0} → Meaning A H → Reader → A → A
state_of means reader state = means.step state (characters (chars (string_bytes reader.run)))

-- What was read, and a text that goes on, does.
abbrev pub Reads : {A H : Type 0} → References → Meaning A H → Reader → A → List ℕ → A → Type 0
Reads table means reader state cs final =
    Leaves table means reader.mode reader.pending.place (chars (string_bytes reader.pending.held) ++ cs)
    (state_of means reader state) final
