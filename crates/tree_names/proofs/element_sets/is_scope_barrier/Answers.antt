use Rattle.std.proofs.Common.{refl}
use Rattle.tree_names.specs.ElementSets.{html_barriers}
use Rattle.tree_names.proofs.element_sets.is_scope_barrier.Goals as goal

pub returns : goal.returns
returns c = c.is_barrier.ensures html_barriers refl refl
