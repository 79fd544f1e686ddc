use Rattle.std.proofs.Common.{rules, sym, subst}
use Rattle.tree_model.specs.Sound.{Sound}
use Rattle.tree_model.proofs.SoundLemmas.{quirks_sound}
use Rattle.html_tree_state.proofs.construction.Construction.set_quirks_mode.Goals as goal

pub returns-clause-seen : goal.returns-clause-seen
returns-clause-seen g c = search rules

pub returns-clause-sound : goal.returns-clause-sound
returns-clause-sound g c = subst Sound (sym (returns-clause-seen g c)) (quirks_sound _ c.args.mode c.requires)
