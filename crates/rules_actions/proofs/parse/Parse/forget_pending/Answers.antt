use Rattle.std.proofs.Common.{ap, ◌∙◌}
use Rattle.std.proofs.lemmas.Str.{chars-nil}
use Rattle.std.specs.Str.{chars}
use Rattle.rules_actions.specs.Parsed.{parsed}
use Rattle.rules_actions.proofs.ActionLemmas.{with_pending}
use Rattle.rules_table.specs.Actions.{act}
use Rattle.rules_actions.proofs.parse.Parse.forget_pending.Goals as goal

pub returns-clause-seen : goal.returns-clause-seen
unfolding act
returns-clause-seen g c = with_pending (parsed g.S.TreeSink.view
    c.args.self.now.kept c.args.self.now.tree.held c.args.self.now.tree.sink)
    (c.from.ensures ∙ (ap chars c.new.ensures.bytes ∙ chars-nil))
