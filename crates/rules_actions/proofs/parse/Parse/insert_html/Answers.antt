use Rattle.std.proofs.Common.{◌∙◌}
use Rattle.rules_actions.proofs.ActionLemmas.{with_building}
use Rattle.rules_actions.proofs.parse.Parse.insert_html.Goals as goal
use Rattle.rules_actions.specs.Parsed.{parsed}
use Rattle.rules_table.specs.State.{State}

pub returns-in_default-clause-seen : goal.returns-in_default-clause-seen
returns-in_default-clause-seen g c =
    let tree = g.S.TreeSink in
    let page = c.args.self.now in
    let s : State = parsed tree.view page.kept page.tree.held page.tree.sink in
    with_building s c.in_ok-insert_element.ensures.seen

pub returns-clause-seen : goal.returns-clause-seen
returns-clause-seen g c =
    let tree = g.S.TreeSink in
    let page = c.args.self.now in
    let s : State = parsed tree.view page.kept page.tree.held page.tree.sink in
    c.in_ok-associate.ensures.seen ∙ with_building s c.in_ok-element.ensures.seen
