use Rattle.std.proofs.Common.{◌++◌, subst}
use Rattle.token_grammar.specs.FirstMode.{first_mode}
use Rattle.token_grammar.specs.PageText.{page_text}
use Rattle.token_grammar.specs.Reading.{Reading}
use Rattle.html_tokenizer.specs.Completes as tokenizers
use Rattle.html_tree_builder.proofs.pages.parse_document.Goals as goal
use Rattle.html_tree_builder.specs.Parsers.{Completes, state_in}
use Rattle.rules_table.specs.Settling.{meaning}

pub returns-clause-begins : goal.returns-clause-begins
unfolding Completes
returns-clause-begins g c = λ page final does.
    let state = state_in g.S.TreeSink.view in
    let means = meaning g.S.TreeSink.view.handle in
    let opts = c.args.opts.tokenizer in
    let read : tokenizers.Completes state means c.new.result page final = subst
    (λ q. tokenizers.Completes state means c.new.result (q.text ++ page) final) c.new-2.ensures does in
    subst (λ s. Reading c.args.table means (first_mode opts) s (page_text opts.discard_bom page) final)
    c.new-builder.ensures.begun (c.new.ensures.begins page final read)
