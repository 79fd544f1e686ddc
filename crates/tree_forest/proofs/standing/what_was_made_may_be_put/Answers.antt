use Rattle.tree_forest.proofs.MadeNodes.{element_put, leaf_put}
use Rattle.tree_forest.proofs.Nodes.{kind_new}
use Rattle.tree_forest.proofs.standing.what_was_made_may_be_put.Goals as goal

pub returns-clause-kind : goal.returns-clause-kind
returns-clause-kind c = kind_new

pub returns-clause-leaf : goal.returns-clause-leaf
returns-clause-leaf c = λ place kind f forest there plain child. leaf_put kind f forest plain place there child

pub returns-clause-element : goal.returns-clause-element
returns-clause-element c = element_put
