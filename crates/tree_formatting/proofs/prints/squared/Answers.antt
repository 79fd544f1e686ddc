use Rattle.std.proofs.Common.{refl}
use Rattle.tree_formatting.specs.Prints.{squared}
use Rattle.tree_formatting.proofs.prints.squared.Goals as goal

pub returns : goal.returns
unfolding squared
returns c = refl
