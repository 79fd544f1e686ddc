use Rattle.std.proofs.Common.{ap, ◌∙◌}
use Rattle.std.proofs.lemmas.Str.{chars-nil}
use Rattle.std.specs.Str.{chars}
use Rattle.rules_actions.specs.Parsed.{parsed}
use Rattle.rules_tables.proofs.PendingLemmas.{none_left}
use Rattle.rules_tables.proofs.in_table_text.take_pending.Goals as goal

pub returns-clause-seen : goal.returns-clause-seen
returns-clause-seen g c = none_left (parsed g.S.TreeSink.view
    c.args.page.now.kept c.args.page.now.tree.held c.args.page.now.tree.sink)
    (c.replace.ensures.after ∙ (c.from-none.ensures ∙ (ap chars c.new.ensures.bytes ∙ chars-nil)))
