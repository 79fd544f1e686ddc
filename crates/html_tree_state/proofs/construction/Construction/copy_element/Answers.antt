use Rattle.std.proofs.Common.{◌≡◌, rules, sym, ap, ap₂, subst, ◌∙◌}
use Rattle.tree_model.specs.Adoption.{copied}
use Rattle.tree_model.specs.Building.{Parts, are_counted, seen, stack_of}
use Rattle.tree_forest.specs.Forest.{Forest, name_of}
use Rattle.tree_model.proofs.SeenLemmas.{seen_is}
use Rattle.tree_model.specs.Sound.{Sound}
use Rattle.tree_model.proofs.CopyLemmas.{can_put_copy, copied_forest, copied_kept, copied_names}
use Rattle.html_tree_state.proofs.construction.Construction.copy_element.Goals as goal

pub append-requires : goal.append-requires
append-requires g c =
    let tree = g.S.TreeSink in
    can_put_copy (tree.view.number c.args.element) (tree.view.number c.args.last) (tree.view.number c.in_ok-copy.copy)
    c.args.tag
    (seen tree.view c.args.self.now.held c.args.self.now.sink)
    (tree.view.forest c.make_element_for.new.self.sink) (tree.view.forest c.remove_from_parent.new.self)
    c.laws_of_forests.ensures c.requires.sound c.requires.can c.in_ok-copy.ensures.number
    c.in_ok-copy.ensures.forest c.in_ok-remove_from_parent.ensures.forest

pub replace-requires-clause-name : goal.replace-requires-clause-name
replace-requires-clause-name g c =
    let tree = g.S.TreeSink in
    let b = seen tree.view c.args.self.now.held c.args.self.now.sink in
    let n = tree.view.number c.args.element in
    let last = tree.view.number c.args.last in
    let forest_is = copied_forest n last (tree.view.number c.in_ok-copy.copy) c.args.tag b
    (tree.view.forest c.make_element_for.new.self.sink) (tree.view.forest c.remove_from_parent.new.self)
    (tree.view.forest c.append.new.self) c.in_ok-copy.ensures.number c.in_ok-copy.ensures.forest
    c.in_ok-remove_from_parent.ensures.forest c.in_ok-append.ensures.forest in
    subst (λ f. name_of (tree.view.number c.in_ok-copy.copy) f ≡ name_of n f) (sym forest_is)
    (ap (λ k. name_of k (copied n c.args.tag last b).forest) c.in_ok-copy.ensures.number
    ∙ copied_names n last c.args.tag b c.laws_of_forests.ensures c.requires.sound c.requires.can)

pub replace-requires-clause-counted : goal.replace-requires-clause-counted
replace-requires-clause-counted g c =
    let tree = g.S.TreeSink in
    let b = seen tree.view c.args.self.now.held c.args.self.now.sink in
    let n = tree.view.number c.args.element in
    let last = tree.view.number c.args.last in
    let forest_is = copied_forest n last (tree.view.number c.in_ok-copy.copy) c.args.tag b
    (tree.view.forest c.make_element_for.new.self.sink) (tree.view.forest c.remove_from_parent.new.self)
    (tree.view.forest c.append.new.self) c.in_ok-copy.ensures.number c.in_ok-copy.ensures.forest
    c.in_ok-remove_from_parent.ensures.forest c.in_ok-append.ensures.forest in
    ap₂ (λ (p : Parts g.row.S-Handle.Denot) (f : Forest). are_counted p.counts (stack_of tree.view.number
    p.open_elements) f)
    c.make_element_for.ensures.held forest_is
    ∙ copied_kept n last c.args.tag c.args.self.now.held.counts b c.laws_of_forests.ensures c.requires.sound
    ∙ c.requires.sound.counted

pub returns-clause-seen : goal.returns-clause-seen
returns-clause-seen g c =
    let tree = g.S.TreeSink in
    let b = seen tree.view c.args.self.now.held c.args.self.now.sink in
    let n = tree.view.number c.args.element in
    let last = tree.view.number c.args.last in
    let forest_is = copied_forest n last (tree.view.number c.in_ok-copy.copy) c.args.tag b
    (tree.view.forest c.make_element_for.new.self.sink) (tree.view.forest c.remove_from_parent.new.self)
    (tree.view.forest c.append.new.self) c.in_ok-copy.ensures.number c.in_ok-copy.ensures.forest
    c.in_ok-remove_from_parent.ensures.forest c.in_ok-append.ensures.forest in
    seen_is tree.view c.hand_over.new.self c.append.new.self (copied n c.args.tag last b)
    (search rules) (search rules) (search rules) forest_is (search rules)
    (ap₂ (λ counts handles. are_counted counts (stack_of tree.view.number handles) (tree.view.forest c.append.new.self))
    c.hand_over.ensures.counts c.hand_over.ensures.open ∙ c.replace.ensures.counted ∙ sym c.requires.sound.counted)

pub returns-clause-sound : goal.returns-clause-sound
returns-clause-sound g c = subst Sound (sym (returns-clause-seen g c))
    (c.adopting_keeps_sound.ensures.copied (g.S.TreeSink.view.number c.args.element) (g.S.TreeSink.view.number
    c.args.last)
    c.args.tag _ c.laws_of_forests.ensures c.requires.sound c.requires.can)

pub returns-clause-forest : goal.returns-clause-forest
returns-clause-forest g c = (returns-clause-sound g c).forest
