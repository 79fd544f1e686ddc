use Rattle.tree_forest.proofs.LawPlaces.{put_below, put_right_before, put_there}
use Rattle.tree_forest.proofs.laws.a_node_stands_where_it_was_put.Goals as goal

pub returns-clause-below : goal.returns-clause-below
returns-clause-below c = put_below

pub returns-clause-before : goal.returns-clause-before
returns-clause-before c = put_right_before

pub returns-clause-nowhere_else : goal.returns-clause-nowhere_else
returns-clause-nowhere_else c = put_there
