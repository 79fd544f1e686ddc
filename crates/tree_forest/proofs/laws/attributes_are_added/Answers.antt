use Rattle.tree_forest.proofs.LawAttributes.{added, children_stay, contents_stay, names_stay}
use Rattle.tree_forest.proofs.laws.attributes_are_added.Goals as goal

pub returns-clause-attributes : goal.returns-clause-attributes
returns-clause-attributes c = added

pub returns-clause-name : goal.returns-clause-name
returns-clause-name c = names_stay

pub returns-clause-contents : goal.returns-clause-contents
returns-clause-contents c = contents_stay

pub returns-clause-children : goal.returns-clause-children
returns-clause-children c = children_stay
