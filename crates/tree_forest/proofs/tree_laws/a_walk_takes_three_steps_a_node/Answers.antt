use Rattle.tree_forest.proofs.TreeLemmas.{three_steps}
use Rattle.tree_forest.proofs.tree_laws.a_walk_takes_three_steps_a_node.Goals as goal

pub returns : goal.returns
returns c = three_steps
