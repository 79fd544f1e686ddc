use Rattle.std.proofs.Common.{refl}
use Rattle.tree_names.specs.ElementSets.{table_row_context}
use Rattle.tree_names.proofs.element_sets.is_table_row_context.Goals as goal

pub returns : goal.returns
returns c = c.is_html_in.ensures table_row_context.html refl refl
