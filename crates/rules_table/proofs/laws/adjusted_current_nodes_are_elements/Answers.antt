use Rattle.rules_table.proofs.ReadyLemmas.{adjusted_element}
use Rattle.rules_table.proofs.laws.adjusted_current_nodes_are_elements.Goals as goal

pub returns : goal.returns
returns c = adjusted_element
