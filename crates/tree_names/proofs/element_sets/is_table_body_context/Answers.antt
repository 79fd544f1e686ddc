use Rattle.std.proofs.Common.{refl}
use Rattle.tree_names.specs.ElementSets.{table_body_context}
use Rattle.tree_names.proofs.element_sets.is_table_body_context.Goals as goal

pub returns : goal.returns
returns c = c.is_html_in.ensures table_body_context.html refl refl
