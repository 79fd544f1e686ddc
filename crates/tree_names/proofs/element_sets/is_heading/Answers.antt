use Rattle.std.proofs.Common.{refl}
use Rattle.tree_names.specs.ElementSets.{headings}
use Rattle.tree_names.proofs.element_sets.is_heading.Goals as goal

pub returns : goal.returns
returns c = c.is_html_in.ensures headings.html refl refl
