use Rattle.std.proofs.Common.{chars, ◌∙◌}
use Rattle.rules_actions.specs.Parsed.{parsed}
use Rattle.rules_table.specs.State.{State}
use Rattle.rules_steps.proofs.TextLemmas.{same_of}
use Rattle.rules_steps.proofs.text.take_run.Goals as goal

pub returns-clause-seen : goal.returns-clause-seen
returns-clause-seen g c =
    let tree = g.S.TreeSink in
    let cs = chars c.args.text.now in
    let page = c.args.page.now in
    let old : State = parsed tree.view page.kept page.tree.held page.tree.sink in
    let settled = c.hand_on.new.page in
    let mid : State = parsed tree.view settled.kept settled.tree.held settled.tree.sink in
    c.in_ok-left.ensures.seen
    ∙ same_of c.first_is_white_space-is_space.result cs old mid c.first_is_white_space-is_space.ensures
    c.in_ok-hand_on.ensures.same
