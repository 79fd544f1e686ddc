use Rattle.std.proofs.Common.{refl}
use Rattle.tree_names.specs.ElementSets.{address_div_and_p}
use Rattle.tree_names.proofs.element_sets.is_address_div_or_p.Goals as goal

pub returns : goal.returns
returns c = c.is_html_in.ensures address_div_and_p.html refl refl
