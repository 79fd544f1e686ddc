use Rattle.std.proofs.Common.{sym, ◌∙◌}
use Rattle.rules_actions.specs.Parsed.{parsed}
use Rattle.rules_actions.proofs.ActionLemmas.{kept_pending, with_pending}
use Rattle.rules_actions.proofs.parse.Parse.keep_pending.Goals as goal

pub returns-clause-seen : goal.returns-clause-seen
returns-clause-seen g c = with_pending (parsed g.S.TreeSink.view
    c.args.self.now.kept c.args.self.now.tree.held c.args.self.now.tree.sink)
    c.in_ok-push_str.ensures.ok
    ∙ sym (kept_pending _ (parsed g.S.TreeSink.view
    c.args.self.now.kept c.args.self.now.tree.held c.args.self.now.tree.sink))
