use Rattle.std.proofs.Common.{refl, sym, subst}
use Rattle.tree_model.specs.Building.{seen}
use Rattle.tree_model.specs.Sound.{Sound}
use Rattle.tree_model.proofs.CountsKept.{attributed_kept}
use Rattle.tree_model.proofs.SeenLemmas.{seen_changed}
use Rattle.tree_model.proofs.InsertedLemmas.{attributed_sound}
use Rattle.html_tree_state.proofs.construction.Construction.add_attributes_if_missing.Goals as goal

pub returns-clause-seen : goal.returns-clause-seen
returns-clause-seen g c =
    let tree = g.S.TreeSink in
    let b = seen tree.view c.args.self.now.held c.args.self.now.sink in
    seen_changed tree.view c.args.self.now.held c.args.self.now.held
    c.args.self.now.sink c.add_attrs_if_missing.new.self _ refl c.in_ok-add_attrs_if_missing.ensures.forest
    c.add_attrs_if_missing.ensures.quirks
    (attributed_kept c.laws_of_forests.ensures c.args.self.now.held.counts b c.requires.sound
    (tree.view.number c.args.target) c.args.attrs)

pub returns-clause-sound : goal.returns-clause-sound
returns-clause-sound g c = subst Sound (sym (returns-clause-seen g c))
    (attributed_sound c.laws_of_forests.ensures (g.S.TreeSink.view.number c.args.target) c.args.attrs _
    c.requires.sound)
