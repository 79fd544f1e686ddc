use Rattle.tree_forest.proofs.LawPlaces.{out_nowhere, out_siblings}
use Rattle.tree_forest.proofs.laws.a_node_taken_out_stands_nowhere.Goals as goal

pub returns-clause-nowhere : goal.returns-clause-nowhere
returns-clause-nowhere c = out_nowhere

pub returns-clause-siblings : goal.returns-clause-siblings
returns-clause-siblings c = out_siblings
