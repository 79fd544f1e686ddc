use Rattle.std.proofs.Common.{refl, ◌++◌, ◌∷◌, [], codes}
use Rattle.tree_names.specs.ElementSets.{html_barriers}
use Rattle.tree_names.proofs.element_sets.is_button_scope_barrier.Goals as goal

pub returns : goal.returns
returns c = c.is_barrier.ensures (html_barriers ++ codes "button" ∷ []) refl refl
