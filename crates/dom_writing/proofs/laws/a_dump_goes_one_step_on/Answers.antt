use Rattle.dom_writing.proofs.FuelLemmas.{one_step_on}
use Rattle.dom_writing.proofs.laws.a_dump_goes_one_step_on.Goals as goal

pub returns : goal.returns
returns c = one_step_on
