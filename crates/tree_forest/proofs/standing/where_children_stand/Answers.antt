use Rattle.tree_forest.proofs.Nodes.{children_made}
use Rattle.tree_forest.proofs.StandingLemmas.{given_children, none_left, out_children_are, parent_has, put_children_are}
use Rattle.tree_forest.proofs.standing.where_children_stand.Goals as goal

pub returns-clause-put : goal.returns-clause-put
returns-clause-put c = put_children_are

pub returns-clause-taken_out : goal.returns-clause-taken_out
returns-clause-taken_out c = out_children_are

pub returns-clause-made : goal.returns-clause-made
returns-clause-made c = λ kind q f. children_made q kind f

pub returns-clause-given : goal.returns-clause-given
returns-clause-given c = given_children

pub returns-clause-none_left : goal.returns-clause-none_left
returns-clause-none_left c = none_left

pub returns-clause-parent : goal.returns-clause-parent
returns-clause-parent c = parent_has
