use Rattle.std.proofs.Common.{◌≡◌, true, false, rules, sym, ◌∙◌}
use Rattle.token_grammar.specs.Items.{item_of}
use Rattle.rules_actions.specs.Parsed.{parsed}
use Rattle.html_tree_builder.proofs.FitLemmas.{still_ready}
use Rattle.html_tree_builder.proofs.sink.TreeBuilderTokenSink.process_token.Goals as goal
use Rattle.html_tree_builder.proofs.sink.TreeBuilderTokenSink.process_token.Goals.{then-self-via-else-self+then-self-2}
use Rattle.html_tree_builder.proofs.sink.TreeBuilderTokenSink.process_token.Goals.{then-self-via-then-self}
use Rattle.rules_table.specs.State.{State}

pub returns-then-self-clause-refused : goal.returns-then-self-clause-refused
returns-then-self-clause-refused g c = λ welcome. absurd (elim c.then-self.branch [
  | then-self-via-then-self w ↦ (let k : true ≡ false = sym w.if-self.true ∙ welcome.works in cc)
  | then-self-via-else-self+then-self-2 w ↦ (let k : true ≡ false = sym w.if-self-2.true ∙ welcome.goes_on in cc)
])

pub returns-then-is_out_of_place-clause-refused : goal.returns-then-is_out_of_place-clause-refused
returns-then-is_out_of_place-clause-refused g c =
    λ w. absurd (c.is_out_of_place.ensures.out c.if-is_out_of_place.true w.heard)

pub returns-in-Ok-clause-state : goal.returns-in-Ok-clause-state
returns-in-Ok-clause-state g c = search rules

pub returns-in-Ok-clause-fit : goal.returns-in-Ok-clause-fit
returns-in-Ok-clause-fit g c =
    let tree = g.S.TreeSink in
    let page = c.args.self.now.page in
    let s : State = parsed tree.view page.kept page.tree.held page.tree.sink in
    λ _. still_ready s _ (item_of c.args.token) (c.requires (search rules)) (returns-in-Ok-clause-state g c)

pub returns-in-Ok-clause-works : goal.returns-in-Ok-clause-works
returns-in-Ok-clause-works g c =
    let tree = g.S.TreeSink in
    let page = c.args.self.now.page in
    let s : State = parsed tree.view page.kept page.tree.held page.tree.sink in
    (still_ready s _ (item_of c.args.token) (c.requires (search rules)) (returns-in-Ok-clause-state g c)).works
