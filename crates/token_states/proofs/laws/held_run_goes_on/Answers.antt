use Rattle.token_states.proofs.HeldRunLemmas.{run_going, run_lines, run_sound}
use Rattle.token_states.proofs.laws.held_run_goes_on.Goals as goal

pub returns-clause-sound : goal.returns-clause-sound
returns-clause-sound c = run_sound

pub returns-clause-going : goal.returns-clause-going
returns-clause-going c = run_going

pub returns-clause-lines : goal.returns-clause-lines
returns-clause-lines c = run_lines
