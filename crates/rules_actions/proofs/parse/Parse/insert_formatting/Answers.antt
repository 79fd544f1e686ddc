use Rattle.std.proofs.Common.{sym, subst, ap, ◌∙◌}
use Rattle.html_lexemes.specs.declared.token.Tag.{Tag}
use Rattle.html_tree_state.specs.Building.{Building, seen}
use Rattle.html_tree_state.specs.Formatting.{inserted_formatting}
use Rattle.rules_actions.specs.Parsed.{parsed}
use Rattle.rules_actions.proofs.ActionLemmas.{formatting_listed}
use Rattle.rules_table.specs.Actions.{act}
use Rattle.rules_table.specs.Settling.{Ready}
use Rattle.rules_actions.proofs.parse.Parse.insert_formatting.Goals as goal

pub returns-clause-seen : goal.returns-clause-seen
unfolding act
returns-clause-seen g c =
    let sink = g.S.TreeSink in
    let kept = c.args.self.now.kept in
    let tree = c.args.self.now.tree in
    let old = seen sink.view tree.held tree.sink in
    ap (λ (b : Building). record (parsed sink.view kept tree.held tree.sink) { tree = b })
    (c.in_ok-insert_formatting_element.ensures.seen
    ∙ (ap (λ (t : Tag). inserted_formatting t old) c.in_ok-tag.ensures
    ∙ formatting_listed c.args.tag.now old c.requires.formatting))

pub returns-clause-ready : goal.returns-clause-ready
returns-clause-ready g c =
    subst Ready (sym (returns-clause-seen g c)) (c.actions_keep_what_is_ready.ensures _ _ c.requires.ready)
