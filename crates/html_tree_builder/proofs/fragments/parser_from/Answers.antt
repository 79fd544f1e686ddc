use Rattle.std.proofs.Common.{ℕ, List, ◌++◌, subst}
use Rattle.token_grammar.specs.PageText.{page_text}
use Rattle.token_grammar.specs.Reading.{Reading}
use Rattle.html_lexemes.specs.declared.states.State.{State as TextState}
use Rattle.html_tokenizer.specs.Completes as tokenizers
use Rattle.html_tree_builder.proofs.fragments.parser_from.Goals as goal
use Rattle.html_tree_builder.specs.Fragments.{mode_from}
use Rattle.html_tree_builder.specs.Parsers.{Completes, state_in}
use Rattle.rules_table.specs.Settling.{meaning}
use Rattle.rules_table.specs.State.{State}

pub new-requires : goal.new-requires
new-requires g c = record { is_ready = c.requires.ready; hears = λ item kind. c.requires.hears item }

pub returns-clause-begins : goal.returns-clause-begins
unfolding Completes
returns-clause-begins g c = λ begun first is_begun is_first text final does.
    let state = state_in g.S.TreeSink.view in
    let means = meaning g.S.TreeSink.view.handle in
    let opts = c.args.opts in
    let pages : List ℕ = page_text opts.discard_bom text in
    let read : tokenizers.Completes state means c.new.result text final = subst
    (λ q. tokenizers.Completes state means c.new.result (q.text ++ text) final) c.new-2.ensures does in
    subst (λ (s : State). Reading c.args.table means (mode_from first opts) s pages final) is_begun
    (subst (λ (t : TextState). Reading c.args.table means (mode_from t opts) (state c.args.builder) pages final)
    is_first
    (c.new.ensures.begins text final read))
