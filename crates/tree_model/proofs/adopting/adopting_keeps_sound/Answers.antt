use Rattle.tree_model.proofs.adopting.adopting_keeps_sound.Goals as goal
use Rattle.tree_model.proofs.AdoptionLemmas.{popped_with_sound, taken_off_sound, unlisted_sound}
use Rattle.tree_model.proofs.CopyLemmas.{copied_sound}
use Rattle.tree_model.proofs.PlacedLemmas.{placed_sound}
use Rattle.tree_model.proofs.TakeOverLemmas.{taken_over_sound}

pub returns-clause-taken_off : goal.returns-clause-taken_off
returns-clause-taken_off c = taken_off_sound

pub returns-clause-popped_with : goal.returns-clause-popped_with
returns-clause-popped_with c = popped_with_sound

pub returns-clause-unlisted : goal.returns-clause-unlisted
returns-clause-unlisted c = unlisted_sound

pub returns-clause-copied : goal.returns-clause-copied
returns-clause-copied c = copied_sound

pub returns-clause-placed : goal.returns-clause-placed
returns-clause-placed c = placed_sound

pub returns-clause-taken_over : goal.returns-clause-taken_over
returns-clause-taken_over c bookmark n block tag b laws sound can =
    taken_over_sound n block tag b laws sound can bookmark
