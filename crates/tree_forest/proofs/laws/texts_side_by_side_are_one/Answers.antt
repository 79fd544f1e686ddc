use Rattle.tree_forest.proofs.LawTexts.{side_by_side}
use Rattle.tree_forest.proofs.laws.texts_side_by_side_are_one.Goals as goal

pub returns : goal.returns
returns c = side_by_side
