use Rattle.tree_forest.proofs.MadeNodes.{put_kept}
use Rattle.tree_forest.proofs.keeping.putting_keeps_a_forest.Goals as goal

pub returns : goal.returns
returns c = put_kept
