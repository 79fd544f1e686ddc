use Rattle.rules_table.proofs.ReadyLemmas.{act_ready}
use Rattle.rules_table.proofs.laws.actions_keep_what_is_ready.Goals as goal

pub returns : goal.returns
returns c = act_ready c.words_keep_a_tree_sound.ensures c.elements_stay.ensures.there
