use Rattle.std.proofs.Common.{refl}
use Rattle.tree_names.specs.ElementSets.{table_text_places}
use Rattle.tree_names.proofs.element_sets.collects_table_text.Goals as goal

pub returns : goal.returns
returns c = c.is_html_in.ensures table_text_places.html refl refl
