use Rattle.tree_forest.proofs.MadeNodes.{doctype_kept, element_kept, leaf_kept}
use Rattle.tree_forest.proofs.keeping.making_keeps_a_forest.Goals as goal

pub returns-clause-leaf : goal.returns-clause-leaf
returns-clause-leaf c = leaf_kept

pub returns-clause-element : goal.returns-clause-element
returns-clause-element c = element_kept

pub returns-clause-doctype : goal.returns-clause-doctype
returns-clause-doctype c = doctype_kept
