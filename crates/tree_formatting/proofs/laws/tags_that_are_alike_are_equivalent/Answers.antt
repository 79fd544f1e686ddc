use Rattle.tree_formatting.proofs.AlikeLemmas.{alike_from_equivalent, equivalent_from_alike}
use Rattle.tree_formatting.proofs.laws.tags_that_are_alike_are_equivalent.Goals as goal

pub returns : goal.returns
returns c = λ a b. (equivalent_from_alike a b, alike_from_equivalent a b)
