use Rattle.std.proofs.Common.{sym, subst, ◌∙◌}
use Rattle.tree_model.specs.Building.{seen}
use Rattle.tree_model.specs.Points.{place_of}
use Rattle.tree_model.specs.Sound.{Sound}
use Rattle.tree_model.proofs.CountsKept.{comment_kept}
use Rattle.tree_model.proofs.SeenLemmas.{seen_changed}
use Rattle.tree_model.proofs.InsertedLemmas.{can_put_comment, commented_sound, put_comment}
use Rattle.html_tree_state.proofs.construction.Construction.append_comment_at.Goals as goal

pub insert_at-requires : goal.insert_at-requires
insert_at-requires g c =
    can_put_comment c.laws_of_forests.ensures g.S.TreeSink.view.number c.args.point
    (g.S.TreeSink.view.number c.in_ok-comment.comment) _ _ _ c.in_ok-comment.ensures.forest
    c.in_ok-comment.ensures.number c.requires.sound.forest c.requires.place

pub returns-clause-seen : goal.returns-clause-seen
returns-clause-seen g c =
    let tree = g.S.TreeSink in
    let b = seen tree.view c.args.self.now.held c.args.self.now.sink in
    let forest = put_comment g.S.TreeSink.view.number c.args.point (g.S.TreeSink.view.number c.in_ok-comment.comment) _
    _ _ _
    c.in_ok-insert_at.ensures.forest c.in_ok-comment.ensures.forest c.in_ok-comment.ensures.number in
    seen_changed tree.view c.args.self.now.held c.insert_at.new.self.held
    c.args.self.now.sink c.insert_at.new.self.sink _ c.insert_at.ensures.held forest
    (c.insert_at.ensures.quirks ∙ c.create_comment.ensures.quirks)
    (comment_kept c.laws_of_forests.ensures c.args.self.now.held.counts b c.requires.sound
    (place_of tree.view.number (tree.view.forest c.args.self.now.sink) c.args.point) c.args.text)

pub returns-clause-sound : goal.returns-clause-sound
returns-clause-sound g c = subst Sound (sym (returns-clause-seen g c))
    (commented_sound c.laws_of_forests.ensures _ c.args.text _ c.requires.sound c.requires.place)

pub returns-clause-forest : goal.returns-clause-forest
returns-clause-forest g c = (returns-clause-sound g c).forest
