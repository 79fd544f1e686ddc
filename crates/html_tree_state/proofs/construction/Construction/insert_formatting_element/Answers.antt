use Rattle.std.proofs.Common.{sym, subst}
use Rattle.tree_forest.specs.Forest.{nodes}
use Rattle.tree_model.specs.Formatting.{inserted_for}
use Rattle.tree_model.specs.Building.{seen}
use Rattle.tree_model.specs.Sound.{Sound}
use Rattle.tree_model.proofs.ListedLemmas.{inserted_formatting_sound}
use Rattle.tree_model.proofs.SeenLemmas.{seen_pushed}
use Rattle.html_tree_state.proofs.construction.Construction.insert_formatting_element.Goals as goal

pub returns-clause-seen : goal.returns-clause-seen
returns-clause-seen g c =
    let tree = g.S.TreeSink in
    seen_pushed tree.view c.push_formatting.new.self c.insert_element_for.new.self.held
    c.insert_element_for.new.self.sink
    (inserted_for c.args.tag (seen tree.view c.args.self.now.held c.args.self.now.sink))
    (tree.view.number c.in_ok-element.element) (nodes (tree.view.forest c.args.self.now.sink)) c.args.tag
    c.push_formatting.ensures.open (c.in_ok-push_formatting.ensures.entries tree.view.number)
    c.push_formatting.ensures.fostering c.push_formatting.ensures.counts c.in_ok-element.ensures.seen
    c.in_ok-element.ensures.number

pub returns-clause-sound : goal.returns-clause-sound
returns-clause-sound g c = subst Sound (sym (returns-clause-seen g c))
    (inserted_formatting_sound c.laws_of_forests.ensures c.args.tag _ c.requires.sound c.requires.formatting)
