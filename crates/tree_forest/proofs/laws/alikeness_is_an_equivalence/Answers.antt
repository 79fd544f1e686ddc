use Rattle.tree_forest.proofs.LawAlike.{alike_back, alike_itself, alike_on}
use Rattle.tree_forest.proofs.laws.alikeness_is_an_equivalence.Goals as goal

pub returns-clause-itself : goal.returns-clause-itself
returns-clause-itself c = alike_itself

pub returns-clause-both_ways : goal.returns-clause-both_ways
returns-clause-both_ways c = alike_back

pub returns-clause-on : goal.returns-clause-on
returns-clause-on c = alike_on
