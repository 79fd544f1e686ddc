use Rattle.std.proofs.Common.{rules, subst, sym}
use Rattle.tree_model.specs.Sound.{Sound}
use Rattle.html_tree_state.proofs.construction.Construction.remove_from_list.Goals as goal

pub returns-clause-seen : goal.returns-clause-seen
returns-clause-seen g c = search rules

pub returns-clause-sound : goal.returns-clause-sound
returns-clause-sound g c = subst Sound (sym (returns-clause-seen g c))
    (c.adopting_keeps_sound.ensures.unlisted (g.S.TreeSink.view.number c.args.element) _ c.laws_of_forests.ensures
    c.requires)
