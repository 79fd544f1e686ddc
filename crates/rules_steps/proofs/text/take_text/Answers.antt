use Rattle.std.proofs.Common.{◌≡◌, ◌∙◌, subst, true}
use Rattle.token_grammar.specs.Slices.{first_passes}
use Rattle.rules_steps.specs.Runs.{is_alike}
use Rattle.rules_actions.specs.Parsed.{parsed}
use Rattle.rules_table.specs.State.{State}
use Rattle.rules_steps.proofs.TextLemmas.{same_of}
use Rattle.rules_steps.proofs.text.take_text.Goals as goal

pub returns-clause-seen : goal.returns-clause-seen
returns-clause-seen g c =
    let tree = g.S.TreeSink in
    let page = c.args.page.now in
    let old : State = parsed tree.view page.kept page.tree.held page.tree.sink in
    let settled = c.hand_on.new.page in
    let mid : State = parsed tree.view settled.kept settled.tree.held settled.tree.sink in
    c.in_ok-take_settled.ensures.seen
    ∙ same_of c.first_is_white_space-is_space.result c.args.text old mid
    (subst (λ cs. first_passes (is_alike c.first_is_white_space-is_space.result) cs ≡ true) c.as_str-2.ensures
    c.first_is_white_space-is_space.ensures)
    c.in_ok-hand_on.ensures.same
