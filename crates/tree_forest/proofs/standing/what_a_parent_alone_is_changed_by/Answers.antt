use Rattle.tree_forest.proofs.ParentChanges.{before_alone, nowhere_out, out_alone}
use Rattle.tree_forest.proofs.standing.what_a_parent_alone_is_changed_by.Goals as goal

pub returns-clause-before : goal.returns-clause-before
returns-clause-before c = before_alone

pub returns-clause-taken_out : goal.returns-clause-taken_out
returns-clause-taken_out c = out_alone

pub returns-clause-stands_nowhere : goal.returns-clause-stands_nowhere
returns-clause-stands_nowhere c = nowhere_out
