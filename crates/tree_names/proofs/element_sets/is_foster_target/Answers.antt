use Rattle.std.proofs.Common.{refl}
use Rattle.tree_names.specs.ElementSets.{foster_targets}
use Rattle.tree_names.proofs.element_sets.is_foster_target.Goals as goal

pub returns : goal.returns
returns c = c.is_html_in.ensures foster_targets.html refl refl
