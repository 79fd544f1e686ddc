use Rattle.std.proofs.Common.{sym, subst}
use Rattle.rules_actions.specs.Parsed.{parsed}
use Rattle.rules_actions.proofs.ActionLemmas.{popped_modes, with_modes}
use Rattle.rules_table.specs.Actions.{act}
use Rattle.rules_table.specs.Settling.{Ready}
use Rattle.rules_actions.proofs.parse.Parse.pop_template_mode.Goals as goal

pub returns-clause-seen : goal.returns-clause-seen
unfolding act
returns-clause-seen g c = with_modes (parsed g.S.TreeSink.view
    c.args.self.now.kept c.args.self.now.tree.held c.args.self.now.tree.sink)
    (popped_modes _ c.pop.result _ _ _ _ c.pop.ensures.items c.pop.ensures.rest c.pop.ensures.cases)

pub returns-clause-ready : goal.returns-clause-ready
returns-clause-ready g c =
    subst Ready (sym (returns-clause-seen g c)) (c.actions_keep_what_is_ready.ensures _ _ c.requires.ready)
