use Rattle.tree_forest.proofs.KeptForests.{page_alone_kept}
use Rattle.tree_forest.proofs.keeping.a_page_alone_is_a_forest.Goals as goal

pub returns : goal.returns
returns c = page_alone_kept
