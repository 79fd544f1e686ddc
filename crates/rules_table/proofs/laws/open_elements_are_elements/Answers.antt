use Rattle.rules_table.proofs.ReadyLemmas.{is_among}
use Rattle.rules_table.proofs.laws.open_elements_are_elements.Goals as goal

pub returns : goal.returns
returns c = λ n s ready there. ready.sound.elements n (is_among n s.tree.stack there)
