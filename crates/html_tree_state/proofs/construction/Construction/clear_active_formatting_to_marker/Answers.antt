use Rattle.std.proofs.Common.{arith, sym, subst}
use Rattle.std.proofs.lemmas.Grind.{common_steps}
use Rattle.tree_model.specs.Sound.{Sound}
use Rattle.tree_model.proofs.ListedLemmas.{cleared_sound}
use Rattle.html_tree_state.proofs.construction.Construction.clear_active_formatting_to_marker.Goals as goal

pub returns-clause-seen : goal.returns-clause-seen
returns-clause-seen g c = grind (arith, common_steps, c.clear_to_marker.ensures.entries g.S.TreeSink.view.number)

pub returns-clause-sound : goal.returns-clause-sound
returns-clause-sound g c = subst Sound (sym (returns-clause-seen g c))
    (cleared_sound c.laws_of_forests.ensures _ c.requires)
