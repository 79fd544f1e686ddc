use Rattle.tree_serializer.proofs.FuelLemmas.{one_step_on}
use Rattle.tree_serializer.proofs.laws.a_walk_goes_one_step_on.Goals as goal

pub returns : goal.returns
returns c = one_step_on
