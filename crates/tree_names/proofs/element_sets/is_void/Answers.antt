use Rattle.std.proofs.Common.{refl}
use Rattle.tree_names.specs.ElementSets.{void_elements}
use Rattle.tree_names.proofs.element_sets.is_void.Goals as goal

pub returns : goal.returns
returns c = c.is_html_in.ensures void_elements.html refl refl
