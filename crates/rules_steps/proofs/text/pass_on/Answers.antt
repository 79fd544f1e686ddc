use Rattle.rules_actions.specs.Parsed.{parsed}
use Rattle.rules_table.specs.State.{State}
use Rattle.rules_steps.proofs.TextLemmas.{given_on}
use Rattle.rules_steps.proofs.text.pass_on.Goals as goal

pub returns-clause-passed : goal.returns-clause-passed
returns-clause-passed g c =
    let tree = g.S.TreeSink in
    let page = c.args.page.now in
    let made = c.hand_text_on.new.page in
    let old : State = parsed tree.view page.kept page.tree.held page.tree.sink in
    let new : State = parsed tree.view made.kept made.tree.held made.tree.sink in
    given_on tree.view.handle c.in_ok-hand_text_on.field-0 c.runs_of_text.ensures c.args.is_space old new
    c.requires.calm
    c.requires.mode c.requires.handed c.in_ok-hand_text_on.ensures.came
