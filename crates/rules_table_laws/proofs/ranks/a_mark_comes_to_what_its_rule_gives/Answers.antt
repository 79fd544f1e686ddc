use Rattle.rules_table_laws.proofs.SettleLemmas.{taken_by_rule}
use Rattle.rules_table_laws.proofs.ranks.a_mark_comes_to_what_its_rule_gives.Goals as goal

pub returns : goal.returns
returns c = taken_by_rule c.the_rank_falls.ensures c.actions_keep_what_is_ready.ensures
