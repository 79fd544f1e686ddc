use Rattle.std.proofs.Common.{refl}
use Rattle.tree_names.specs.ElementSets.{table_scope_barriers}
use Rattle.tree_names.proofs.element_sets.is_table_scope_barrier.Goals as goal

pub returns : goal.returns
returns c = c.is_html_in.ensures table_scope_barriers.html refl refl
