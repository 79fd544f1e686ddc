use Rattle.std.proofs.Common.{Option, ℕ, subst, sym}
use Rattle.tree_model.specs.Adoption.{farther}
use Rattle.tree_model.specs.Building.{seen}
use Rattle.tree_model.specs.CanAdopt.{CanTakeOver, IsAncestor}
use Rattle.html_tree_state.specs.Turns.{walk_of}
use Rattle.tree_model.proofs.WalkLemmas.{is_ancestor, may_take_over}
use Rattle.html_tree_state.proofs.construction.Construction.adopt.Goals as goal

pub place_last-requires-clause-sound : goal.place_last-requires-clause-sound
place_last-requires-clause-sound g c = (c.in_ok-walk.ensures.walked.walk c.args.tag c.requires.tagged).sound

pub place_last-requires-clause-can : goal.place_last-requires-clause-can
place_last-requires-clause-can g c =
    let tree = g.S.TreeSink in
    let b = seen tree.view c.args.self.now.held c.args.self.now.sink in
    let n = tree.view.number c.args.element in
    let now = seen tree.view c.walk_up.new.self.held c.walk_up.new.self.sink in
    subst (λ (o : Option ℕ). IsAncestor (tree.view.number c.in_ok-walk.walk.last) o now)
    (sym c.element_above-ancestor.ensures)
    (is_ancestor n (tree.view.number c.args.block) c.args.tag (farther n b.stack)
    (walk_of tree.view.number c.in_ok-walk.walk now) (c.in_ok-walk.ensures.walked.walk c.args.tag c.requires.tagged))

pub take_over-requires-clause-can : goal.take_over-requires-clause-can
take_over-requires-clause-can g c =
    let tree = g.S.TreeSink in
    let b = seen tree.view c.args.self.now.held c.args.self.now.sink in
    let n = tree.view.number c.args.element in
    let block = tree.view.number c.args.block in
    let now = seen tree.view c.walk_up.new.self.held c.walk_up.new.self.sink in
    subst (CanTakeOver n block c.args.tag) (sym c.in_ok-place_last.ensures.seen)
    (may_take_over n block c.args.tag (farther n b.stack) (walk_of tree.view.number c.in_ok-walk.walk now)
    (c.in_ok-walk.ensures.walked.walk c.args.tag c.requires.tagged) _)
