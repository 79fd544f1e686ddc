use Rattle.tree_model.proofs.adopting.the_walk_goes_on.Goals as goal
use Rattle.tree_model.proofs.WalkLemmas.{can_copy, is_ancestor, may_take_over, walk_begins, walk_goes_on}

pub returns-clause-begins : goal.returns-clause-begins
returns-clause-begins c = walk_begins

pub returns-clause-may_copy : goal.returns-clause-may_copy
returns-clause-may_copy c = λ n block m tag held left lows w laws walk.
    can_copy n block m tag left lows w laws walk held

pub returns-clause-goes_on : goal.returns-clause-goes_on
returns-clause-goes_on c = walk_goes_on

pub returns-clause-may_place : goal.returns-clause-may_place
returns-clause-may_place c = is_ancestor

pub returns-clause-may_take_over : goal.returns-clause-may_take_over
returns-clause-may_take_over c = may_take_over
