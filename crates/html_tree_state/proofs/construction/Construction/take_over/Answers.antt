use Rattle.std.proofs.Common.{◌∙◌, List, ap, ap₂, arith, option_map, subst, sym}
use Rattle.std.proofs.lemmas.Grind.{common_steps}
use Rattle.tree_forest.specs.Forest.{nodes}
use Rattle.tree_forest.specs.Orders.{IsIn}
use Rattle.tree_model.specs.Building.{Parts, are_counted, seen, stack_of}
use Rattle.tree_model.specs.Formatting.{made_for}
use Rattle.tree_model.specs.Sound.{Sound}
use Rattle.tree_model.proofs.GrownLemmas.{made_apart}
use Rattle.tree_model.proofs.TakeOverLemmas.{given_is_forest, may_give, may_take, over_elements, over_kept, over_new}
use Rattle.tree_model.proofs.TakeOverLemmas.{taken_is, taken_is_forest}
use Rattle.html_tree_state.proofs.construction.Construction.take_over.Goals as goal

pub reparent_children-requires : goal.reparent_children-requires
reparent_children-requires g c =
    let tree = g.S.TreeSink in
    let b = seen tree.view c.args.self.now.held c.args.self.now.sink in
    let laws = c.laws_of_forests.ensures in
    let block = tree.view.number c.args.block in
    may_give laws block (nodes b.forest) (made_for c.args.tag b.forest)
    (c.adopting_may_be_done.ensures.given (tree.view.number c.args.element) block c.args.tag b laws c.requires.sound
    c.requires.can)
    (tree.view.number c.in_ok-copy.copy) (tree.view.forest c.make_element_for.new.self.sink) c.in_ok-copy.ensures.number
    c.in_ok-copy.ensures.forest

pub append-requires : goal.append-requires
append-requires g c =
    let tree = g.S.TreeSink in
    let b = seen tree.view c.args.self.now.held c.args.self.now.sink in
    let laws = c.laws_of_forests.ensures in
    let block = tree.view.number c.args.block in
    may_take laws block (nodes b.forest) (made_for c.args.tag b.forest)
    (c.adopting_may_be_done.ensures.given (tree.view.number c.args.element) block c.args.tag b laws c.requires.sound
    c.requires.can)
    (tree.view.number c.in_ok-copy.copy) (tree.view.forest c.make_element_for.new.self.sink)
    (tree.view.forest c.reparent_children.new.self)
    (c.adopting_may_be_done.ensures.taken_over (tree.view.number c.args.element) block c.args.tag b laws
    c.requires.sound
    c.requires.can)
    c.in_ok-copy.ensures.number c.in_ok-copy.ensures.forest c.in_ok-reparent_children.ensures.forest

pub returns-in_err-append-clause-forest : goal.returns-in_err-append-clause-forest
returns-in_err-append-clause-forest g c =
    let tree = g.S.TreeSink in
    let b = seen tree.view c.args.self.now.held c.args.self.now.sink in
    let laws = c.laws_of_forests.ensures in
    let block = tree.view.number c.args.block in
    given_is_forest laws block (nodes b.forest) (made_for c.args.tag b.forest)
    (c.adopting_may_be_done.ensures.given (tree.view.number c.args.element) block c.args.tag b laws c.requires.sound
    c.requires.can)
    (tree.view.number c.in_ok-copy.copy) (tree.view.forest c.make_element_for.new.self.sink)
    (tree.view.forest c.append.new.self)
    (made_apart laws c.args.tag b.forest c.requires.sound.forest).forest c.in_ok-copy.ensures.number
    c.in_ok-copy.ensures.forest (c.in_err-append.ensures.refused ∙ c.in_ok-reparent_children.ensures.forest)

pub returns-in_err-list_at-clause-forest : goal.returns-in_err-list_at-clause-forest
returns-in_err-list_at-clause-forest g c =
    let tree = g.S.TreeSink in
    let b = seen tree.view c.args.self.now.held c.args.self.now.sink in
    let laws = c.laws_of_forests.ensures in
    let block = tree.view.number c.args.block in
    taken_is_forest laws block (nodes b.forest) (made_for c.args.tag b.forest)
    (c.adopting_may_be_done.ensures.given (tree.view.number c.args.element) block c.args.tag b laws c.requires.sound
    c.requires.can)
    (tree.view.number c.in_ok-copy.copy) (tree.view.forest c.make_element_for.new.self.sink)
    (tree.view.forest c.reparent_children.new.self) (tree.view.forest c.append.new.self)
    (made_apart laws c.args.tag b.forest c.requires.sound.forest).forest
    (c.adopting_may_be_done.ensures.taken_over (tree.view.number c.args.element) block c.args.tag b laws
    c.requires.sound
    c.requires.can)
    c.in_ok-copy.ensures.number c.in_ok-copy.ensures.forest c.in_ok-reparent_children.ensures.forest
    c.in_ok-append.ensures.forest

pub returns-in_err-open_below-clause-forest : goal.returns-in_err-open_below-clause-forest
returns-in_err-open_below-clause-forest g c =
    let tree = g.S.TreeSink in
    let b = seen tree.view c.args.self.now.held c.args.self.now.sink in
    let laws = c.laws_of_forests.ensures in
    let block = tree.view.number c.args.block in
    taken_is_forest laws block (nodes b.forest) (made_for c.args.tag b.forest)
    (c.adopting_may_be_done.ensures.given (tree.view.number c.args.element) block c.args.tag b laws c.requires.sound
    c.requires.can)
    (tree.view.number c.in_ok-copy.copy) (tree.view.forest c.make_element_for.new.self.sink)
    (tree.view.forest c.reparent_children.new.self) (tree.view.forest c.append.new.self)
    (made_apart laws c.args.tag b.forest c.requires.sound.forest).forest
    (c.adopting_may_be_done.ensures.taken_over (tree.view.number c.args.element) block c.args.tag b laws
    c.requires.sound
    c.requires.can)
    c.in_ok-copy.ensures.number c.in_ok-copy.ensures.forest c.in_ok-reparent_children.ensures.forest
    c.in_ok-append.ensures.forest

pub take_off-requires-clause-elements : goal.take_off-requires-clause-elements
take_off-requires-clause-elements g c k i =
    let tree = g.S.TreeSink in
    let b = seen tree.view c.args.self.now.held c.args.self.now.sink in
    let n = tree.view.number c.args.element in
    let block = tree.view.number c.args.block in
    let over = taken_is block (nodes b.forest) (tree.view.number c.in_ok-copy.copy) c.args.tag b.forest
    (tree.view.forest c.make_element_for.new.self.sink) (tree.view.forest c.reparent_children.new.self)
    (tree.view.forest c.append.new.self) c.in_ok-copy.ensures.number c.in_ok-copy.ensures.forest
    c.in_ok-reparent_children.ensures.forest c.in_ok-append.ensures.forest in
    let open_is = c.list_at.ensures.open
    ∙ ap (λ (p : Parts g.row.S-Handle.Denot). p.open_elements) c.make_element_for.ensures.held in
    over_elements n block c.args.tag b c.laws_of_forests.ensures c.requires.sound c.requires.can
    (tree.view.forest c.append.new.self) over k
    (subst (λ (handles : List g.row.S-Handle.Denot). IsIn k (stack_of tree.view.number handles)) open_is i)

pub take_off-requires-clause-counted : goal.take_off-requires-clause-counted
take_off-requires-clause-counted g c =
    let tree = g.S.TreeSink in
    let b = seen tree.view c.args.self.now.held c.args.self.now.sink in
    let n = tree.view.number c.args.element in
    let block = tree.view.number c.args.block in
    let over = taken_is block (nodes b.forest) (tree.view.number c.in_ok-copy.copy) c.args.tag b.forest
    (tree.view.forest c.make_element_for.new.self.sink) (tree.view.forest c.reparent_children.new.self)
    (tree.view.forest c.append.new.self) c.in_ok-copy.ensures.number c.in_ok-copy.ensures.forest
    c.in_ok-reparent_children.ensures.forest c.in_ok-append.ensures.forest in
    let open_is = c.list_at.ensures.open
    ∙ ap (λ (p : Parts g.row.S-Handle.Denot). p.open_elements) c.make_element_for.ensures.held in
    let counts_are = c.list_at.ensures.counts
    ∙ ap (λ (p : Parts g.row.S-Handle.Denot). p.counts) c.make_element_for.ensures.held in
    ap₂ (λ counts (handles : List g.row.S-Handle.Denot).
    are_counted counts (stack_of tree.view.number handles) (tree.view.forest c.append.new.self)) counts_are open_is
    ∙ over_kept n block c.args.tag b c.laws_of_forests.ensures c.requires.sound c.requires.can
    (tree.view.forest c.append.new.self) over c.args.self.now.held.counts ∙ c.requires.sound.counted

pub open_below-requires-clause-element : goal.open_below-requires-clause-element
open_below-requires-clause-element g c =
    let tree = g.S.TreeSink in
    let b = seen tree.view c.args.self.now.held c.args.self.now.sink in
    let n = tree.view.number c.args.element in
    let block = tree.view.number c.args.block in
    let over = taken_is block (nodes b.forest) (tree.view.number c.in_ok-copy.copy) c.args.tag b.forest
    (tree.view.forest c.make_element_for.new.self.sink) (tree.view.forest c.reparent_children.new.self)
    (tree.view.forest c.append.new.self) c.in_ok-copy.ensures.number c.in_ok-copy.ensures.forest
    c.in_ok-reparent_children.ensures.forest c.in_ok-append.ensures.forest in
    over_new n block c.args.tag b c.laws_of_forests.ensures c.requires.sound c.requires.can
    (tree.view.forest c.append.new.self) over (tree.view.number c.in_ok-copy.copy) c.in_ok-copy.ensures.number

pub returns-clause-seen : goal.returns-clause-seen
returns-clause-seen g c = grind (arith, common_steps)

pub returns-clause-sound : goal.returns-clause-sound
returns-clause-sound g c =
    let tree = g.S.TreeSink in
    subst Sound (sym (returns-clause-seen g c))
    (c.adopting_keeps_sound.ensures.taken_over (option_map tree.view.number c.args.bookmark)
    (tree.view.number c.args.element)
    (tree.view.number c.args.block) c.args.tag _ c.laws_of_forests.ensures c.requires.sound c.requires.can)

pub returns-clause-forest : goal.returns-clause-forest
returns-clause-forest g c = (returns-clause-sound g c).forest
