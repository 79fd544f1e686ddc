-- The mode in which a page begins.
use Rattle.std.specs.Prelude.{false, true, None}
use Rattle.token_grammar.specs.Modes.{text_of_state}
use Rattle.token_grammar.specs.declared.modes.Mode.{Mode}
use Rattle.token_grammar.specs.declared.sink.TokenizerOpts.{TokenizerOpts}

abbrev pub first_mode : TokenizerOpts → Mode
first_mode opts = record { text = text_of_state opts.initial_state; last_start_tag = opts.last_start_tag_name }

-- A page is read as ordinary text, without a first U+FEFF, and errors are emitted without what stood there.
abbrev pub default_options : TokenizerOpts
default_options = record { exact_errors = false; discard_bom = true; initial_state = None; last_start_tag_name = None }
