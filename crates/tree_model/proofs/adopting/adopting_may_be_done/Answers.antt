use Rattle.tree_model.proofs.adopting.adopting_may_be_done.Goals as goal
use Rattle.tree_model.proofs.CopyLemmas.{can_move_to_copy}
use Rattle.tree_model.proofs.PlacedLemmas.{can_move_to_place, is_place}
use Rattle.tree_model.proofs.TakeOverLemmas.{can_reparent, can_take_over}

pub returns-clause-copied : goal.returns-clause-copied
returns-clause-copied c = can_move_to_copy

pub returns-clause-place : goal.returns-clause-place
returns-clause-place c = is_place

pub returns-clause-placed : goal.returns-clause-placed
returns-clause-placed c = can_move_to_place

pub returns-clause-given : goal.returns-clause-given
returns-clause-given c = can_reparent

pub returns-clause-taken_over : goal.returns-clause-taken_over
returns-clause-taken_over c = can_take_over
