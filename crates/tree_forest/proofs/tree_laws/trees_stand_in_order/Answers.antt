use Rattle.tree_forest.proofs.TreeLemmas.{in_order}
use Rattle.tree_forest.proofs.tree_laws.trees_stand_in_order.Goals as goal

pub returns : goal.returns
returns c = in_order
