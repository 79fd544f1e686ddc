use Rattle.tree_forest.proofs.MovedNodes.{attributes_kept}
use Rattle.tree_forest.proofs.keeping.attributes_keep_a_forest.Goals as goal

pub returns : goal.returns
returns c = attributes_kept
