use Rattle.tree_forest.proofs.Reparenting.{reparented_kept}
use Rattle.tree_forest.proofs.keeping.reparenting_keeps_a_forest.Goals as goal

pub returns : goal.returns
returns c = reparented_kept
