use Rattle.std.proofs.Common.{refl}
use Rattle.tree_names.specs.ElementSets.{special_names}
use Rattle.tree_names.proofs.element_sets.is_special.Goals as goal

pub returns : goal.returns
returns c = c.is_barrier.ensures special_names refl refl
