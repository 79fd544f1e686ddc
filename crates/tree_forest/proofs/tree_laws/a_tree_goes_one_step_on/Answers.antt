use Rattle.tree_forest.proofs.TreeLemmas.{one_step_on}
use Rattle.tree_forest.proofs.tree_laws.a_tree_goes_one_step_on.Goals as goal

pub returns-clause-first : goal.returns-clause-first
returns-clause-first c = one_step_on
