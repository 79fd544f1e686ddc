use Rattle.rules_actions.specs.Parsed.{parsed}
use Rattle.rules_table.specs.State.{State}
use Rattle.rules_steps.proofs.TextLemmas.{as_foreign}
use Rattle.rules_steps.proofs.text.take_settled.Goals as goal

pub returns-then-not-takes_text_here-clause-seen : goal.returns-then-not-takes_text_here-clause-seen
returns-then-not-takes_text_here-clause-seen g c =
    let tree = g.S.TreeSink in
    let page = c.args.page.now in
    let old : State = parsed tree.view page.kept page.tree.held page.tree.sink in
    let made = c.say_emitted.new.page in
    let new : State = parsed tree.view made.kept made.tree.held made.tree.sink in
    as_foreign c.runs_of_text.ensures c.args.text old new c.takes_text_here.result c.requires.calm
    c.takes_text_here.ensures.text c.if-not-takes_text_here.true c.in_ok-say_emitted.ensures.seen
