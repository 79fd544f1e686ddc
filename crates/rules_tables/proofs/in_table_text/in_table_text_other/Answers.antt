use Rattle.std.proofs.Common.{ap}
use Rattle.rules_actions.specs.Outcomes.{goes_on}
use Rattle.rules_tables.proofs.PendingLemmas.{pending_emitted}
use Rattle.rules_tables.proofs.in_table_text.in_table_text_other.Goals as goal

pub returns : goal.returns
returns g c = record {
  came = ap goes_on (pending_emitted _ _ _ _ _ c.take_pending-text.ensures.text c.take_pending-text.ensures.seen
      c.in_ok-say_pending.ensures.seen c.go_back.ensures.seen);
  ready = c.go_back.ensures.ready;
  memory = tt;
}
