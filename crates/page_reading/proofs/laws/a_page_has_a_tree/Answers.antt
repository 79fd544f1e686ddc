use Rattle.token_grammar.specs.FirstMode.{first_mode}
use Rattle.token_grammar.specs.PageText.{page_text}
use Rattle.page_reading.proofs.laws.a_page_has_a_tree.Goals as goal
use Rattle.page_reading.proofs.TreeLemmas.{tree_of_reading}
use Rattle.html_tree_builder.specs.Begun.{begun}

pub returns : goal.returns
returns g c = λ from text. tree_of_reading g.S.TreeSink.view.handle from text (c.some_reading.ensures from.table
    (first_mode from.options.tokenizer) (begun from.options.tree_builder from.forest from.quirks)
    (page_text from.options.tokenizer.discard_bom text))
