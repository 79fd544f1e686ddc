use Rattle.tree_forest.specs.Changes.{without_child}
use Rattle.tree_forest.proofs.Nodes.{size_changed, size_made, size_mapped}
use Rattle.tree_forest.proofs.Reparenting.{size_reparented}
use Rattle.tree_forest.proofs.StandingLemmas.{size_put}
use Rattle.tree_forest.proofs.standing.how_many_nodes_there_are.Goals as goal

pub returns-clause-put : goal.returns-clause-put
returns-clause-put c = size_put

pub returns-clause-taken_out : goal.returns-clause-taken_out
returns-clause-taken_out c = λ n f. size_mapped (without_child n) f

pub returns-clause-reparented : goal.returns-clause-reparented
returns-clause-reparented c = size_reparented

pub returns-clause-attributes : goal.returns-clause-attributes
returns-clause-attributes c = λ n more f. size_changed n _ f

pub returns-clause-made : goal.returns-clause-made
returns-clause-made c = size_made
