use Rattle.std.proofs.Common.{option_map, sym, subst}
use Rattle.tree_model.specs.Adoption.{ancestor_of}
use Rattle.tree_model.specs.Points.{place_of}
use Rattle.tree_model.specs.Sound.{Sound}
use Rattle.tree_model.proofs.PlacedLemmas.{ancestor_open, ancestor_sound, can_put_last, out_of_place_sound, seen_out}
use Rattle.tree_model.proofs.PlacedLemmas.{seen_placed}
use Rattle.html_tree_state.proofs.construction.Construction.place_last.Goals as goal

pub point_for-point-requires-clause-sound : goal.point_for-point-requires-clause-sound
point_for-point-requires-clause-sound g c =
    let tree = g.S.TreeSink in
    let out_is = seen_out tree.view c.args.self.now.held c.args.self.now.sink
    c.remove_from_parent.new.self (tree.view.number c.args.last) c.laws_of_forests.ensures c.requires.sound
    c.in_ok-remove_from_parent.ensures.forest
    c.remove_from_parent.ensures.quirks in
    subst Sound (sym out_is) (out_of_place_sound (tree.view.number c.args.last) _ c.laws_of_forests.ensures
    c.requires.sound)

pub point_for-point-requires-clause-open : goal.point_for-point-requires-clause-open
point_for-point-requires-clause-open g c = ancestor_open g.S.TreeSink.view.number c.args.ancestor _ _ c.requires.can

pub insert_at-requires : goal.insert_at-requires
insert_at-requires g c =
    let tree = g.S.TreeSink in
    let out_is = seen_out tree.view c.args.self.now.held c.args.self.now.sink
    c.remove_from_parent.new.self (tree.view.number c.args.last) c.laws_of_forests.ensures c.requires.sound
    c.in_ok-remove_from_parent.ensures.forest
    c.remove_from_parent.ensures.quirks in
    can_put_last (tree.view.number c.args.last) (option_map tree.view.number c.args.ancestor) _ _ _
    c.laws_of_forests.ensures
    c.requires.sound c.requires.can out_is c.point_for-point.ensures

pub returns-clause-seen : goal.returns-clause-seen
returns-clause-seen g c =
    let tree = g.S.TreeSink in
    let out_is = seen_out tree.view c.args.self.now.held c.args.self.now.sink
    c.remove_from_parent.new.self (tree.view.number c.args.last) c.laws_of_forests.ensures c.requires.sound
    c.in_ok-remove_from_parent.ensures.forest
    c.remove_from_parent.ensures.quirks in
    seen_placed tree.view c.args.self.now.held c.insert_at.new.self.held
    c.remove_from_parent.new.self c.insert_at.new.self.sink (tree.view.number c.args.last)
    (ancestor_of (option_map tree.view.number c.args.ancestor)) _
    (place_of tree.view.number (tree.view.forest c.remove_from_parent.new.self) c.point_for-point.result)
    c.laws_of_forests.ensures (subst Sound (sym out_is)
    (out_of_place_sound (tree.view.number c.args.last) _ c.laws_of_forests.ensures c.requires.sound)) out_is
    c.point_for-point.ensures c.insert_at.ensures.held c.in_ok-insert_at.ensures.forest
    c.insert_at.ensures.quirks

pub returns-clause-sound : goal.returns-clause-sound
returns-clause-sound g c = subst Sound (sym (returns-clause-seen g c))
    (ancestor_sound (g.S.TreeSink.view.number c.args.last) (option_map g.S.TreeSink.view.number c.args.ancestor) _
    c.laws_of_forests.ensures c.requires.sound c.requires.can)

pub returns-clause-forest : goal.returns-clause-forest
returns-clause-forest g c = (returns-clause-sound g c).forest
