-- What public contracts say of a parser. These words are whole for those who call it.
use Rattle.std.specs.Prelude.{◌≡◌, ℕ, Bool, false, List, ◌++◌}
use Rattle.tree_forest.specs.Sinks.{SinkView}
use Rattle.html_tokenizer.specs.Completes as tokenizers
use Rattle.html_tree_builder.specs.declared.parser.Parser.{Parser}
use Rattle.rules_actions.specs.Parsed.{parsed}
use Rattle.html_tree_builder.specs.declared.builder.TreeBuilder.{TreeBuilder}
use Rattle.rules_table.specs.Settling.{meaning}
use Rattle.rules_table.specs.State.{State}
use Rattle.rules_table.specs.Welcome.{IsReady, IsWelcome}

-- a call was refused
unfoldable pub has_failed : {S H O : Type 0} → Parser S H O → Bool
has_failed parser = parser.is_over

-- the state of tree construction that a builder is in, by what a sink of trees means
abbrev pub state_in : {S H O : Type 0} → SinkView S H → TreeBuilder S H O → State
state_in view b = parsed view b.page.kept b.page.tree.held b.page.tree.sink

-- where no call was refused, its tokenizer may be called
pub record IsFitParser {S H O : Type 0} (view : SinkView S H)
    (parser : Parser S H O) : Type 0 where
  pub fit : tokenizers.IsFit (state_in view) IsReady IsWelcome parser.tokenizer
  pub works : parser.is_over ≡ false → tokenizers.has_failed parser.tokenizer ≡ false

unfoldable pub IsFit : {S H O : Type 0} → SinkView S H → Parser S H O → Type 0
IsFit view parser = IsFitParser view parser

-- What it was fed with, and a rest of the page, leave its tree builder in a final state.
unfoldable pub Completes : {S H O : Type 0} → SinkView S H → Parser S H O →
    List ℕ → State → Type 0
Completes view parser rest final = tokenizers.Completes (state_in view)
    (meaning view.handle) parser.tokenizer (parser.input_buffer.text ++ rest) final
