use Rattle.std.proofs.Common.{chars}
use Rattle.rules_actions.specs.Parsed.{parsed}
use Rattle.rules_table.specs.State.{State}
use Rattle.rules_steps.proofs.TextLemmas.{all_taken}
use Rattle.rules_steps.proofs.text.take_runs.Goals as goal

pub take_run-requires-clause-some : goal.take_run-requires-clause-some
take_run-requires-clause-some g c = c.is_without_characters.ensures.no c.runs-test.true

pub returns-clause-seen : goal.returns-clause-seen
returns-clause-seen g c =
    let tree = g.S.TreeSink in
    let page = c.args.page.now in
    let old : State = parsed tree.view page.kept page.tree.held page.tree.sink in
    let made = c.runs.page in
    let new : State = parsed tree.view made.kept made.tree.held made.tree.sink in
    all_taken (chars c.runs.rest.now) (chars c.args.text.now) old new
    (c.is_without_characters.ensures.yes c.runs-test.false) c.runs.invariant.same
