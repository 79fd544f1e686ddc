use Rattle.std.proofs.Common.{ap, ◌∙◌}
use Rattle.tree_forest.specs.Places.{put, words}
use Rattle.tree_model.specs.Building.{Building, seen}
use Rattle.tree_model.specs.Points.{place_of}
use Rattle.tree_model.proofs.CountsKept.{said_kept}
use Rattle.tree_model.proofs.SeenLemmas.{seen_changed}
use Rattle.tree_model.proofs.InsertedLemmas.{said_at, said_sound}
use Rattle.tree_model.proofs.SoundLemmas.{forest_left, on_ok, sound_left}
use Rattle.html_tree_state.proofs.construction.Construction.append_text.Goals as goal

pub returns-clause-seen : goal.returns-clause-seen
returns-clause-seen g c =
    let tree = g.S.TreeSink in
    let b = seen tree.view c.args.self.now.held c.args.self.now.sink in
    let place = place_of tree.view.number (tree.view.forest c.args.self.now.sink) c.insertion_point-point.result in
    on_ok c.insert_at.result _ _
    (λ forest_is. seen_changed tree.view c.args.self.now.held c.insert_at.new.self.held
    c.args.self.now.sink c.insert_at.new.self.sink (put place (words c.args.text) b.forest) c.insert_at.ensures.held
    forest_is c.insert_at.ensures.quirks
    (said_kept c.laws_of_forests.ensures c.args.self.now.held.counts b c.requires place c.args.text)
    ∙ ap (λ p. let x : Building = record b { forest = put p (words c.args.text) b.forest } in x)
    c.insertion_point-point.ensures.place)
    c.insert_at.ensures.forest

pub returns-clause-sound : goal.returns-clause-sound
returns-clause-sound g c =
    sound_left _ _ _ (returns-clause-seen g c) (said_sound c.laws_of_forests.ensures _ _ c.requires)

pub returns-clause-forest : goal.returns-clause-forest
returns-clause-forest g c =
    forest_left _ _ _ _ c.insert_at.ensures.refused c.insert_at.ensures.forest c.requires.forest
    (said_at c.laws_of_forests.ensures _ c.args.text _ c.requires c.insertion_point-point.ensures.there).forest
