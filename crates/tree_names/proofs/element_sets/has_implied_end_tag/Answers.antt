use Rattle.std.proofs.Common.{refl}
use Rattle.tree_names.specs.ElementSets.{implied_end_tags}
use Rattle.tree_names.proofs.element_sets.has_implied_end_tag.Goals as goal

pub returns : goal.returns
returns c = c.is_html_in.ensures implied_end_tags.html refl refl
