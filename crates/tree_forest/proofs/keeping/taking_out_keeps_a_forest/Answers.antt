use Rattle.tree_forest.proofs.MovedNodes.{above_before, detached_free, detached_kept}
use Rattle.tree_forest.proofs.keeping.taking_out_keeps_a_forest.Goals as goal

pub returns-clause-forest : goal.returns-clause-forest
returns-clause-forest c = detached_kept

pub returns-clause-free : goal.returns-clause-free
returns-clause-free c = detached_free

pub returns-clause-above : goal.returns-clause-above
returns-clause-above c = above_before
