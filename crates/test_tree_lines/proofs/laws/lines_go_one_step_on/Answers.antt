use Rattle.test_tree_lines.proofs.FuelLemmas.{one_step_on}
use Rattle.test_tree_lines.proofs.laws.lines_go_one_step_on.Goals as goal

pub returns : goal.returns
returns c = one_step_on
