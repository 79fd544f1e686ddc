use Rattle.tree_formatting.proofs.FewLemmas.{few_cleared, few_given, few_handed, few_moved, few_pushed, few_without}
use Rattle.tree_formatting.proofs.laws.at_most_three_are_alike.Goals as goal

pub returns-clause-pushed : goal.returns-clause-pushed
returns-clause-pushed c = λ n tag es few. few_pushed tag n es few

pub returns-clause-cleared : goal.returns-clause-cleared
returns-clause-cleared c = few_cleared

pub returns-clause-removed : goal.returns-clause-removed
returns-clause-removed c = few_without

pub returns-clause-handed_over : goal.returns-clause-handed_over
returns-clause-handed_over c = few_handed

pub returns-clause-moved : goal.returns-clause-moved
returns-clause-moved c = few_moved

pub returns-clause-given : goal.returns-clause-given
returns-clause-given c = few_given
