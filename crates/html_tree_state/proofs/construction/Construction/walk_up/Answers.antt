use Rattle.std.proofs.Common.{◌≡◌, ◌-◌, List, true, false, refl, subst, sym, ◌∙◌, arith}
use Rattle.tree_forest.specs.Forest.{is_in}
use Rattle.tree_model.specs.Building.{seen, stack_of}
use Rattle.tree_model.specs.OpenAt.{IsOpenAt}
use Rattle.html_tree_state.specs.Turns.{walk_of}
use Rattle.html_tree_state.proofs.WalkPlaces.{above_length, block_open, next_below, next_open, same_length, some_left}
use Rattle.html_tree_state.proofs.WalkPlaces.{step_taken, walk_ends, walk_next, walking_begins, within}
use Rattle.html_tree_state.proofs.construction.Construction.walk_up.Goals as goal

pub returns-in_default-clause-walked : goal.returns-in_default-clause-walked
returns-in_default-clause-walked g c =
    let tree = g.S.TreeSink in
    let b = seen tree.view c.args.self.now.held c.args.self.now.sink in
    let none = subst (λ (o : List g.row.S-Handle.Denot). is_in (tree.view.number c.args.block)
    (stack_of tree.view.number o)
    ≡ false) c.open_elements.ensures (c.position.ensures.missing c.in_default.is) in
    absurd (let k : true ≡ false =
    sym (block_open (tree.view.number c.args.element) (tree.view.number c.args.block) b c.requires) ∙ none in cc)

pub up-init : goal.up-init
up-init g c =
    let tree = g.S.TreeSink in
    let b = seen tree.view c.args.self.now.held c.args.self.now.sink in
    let at = subst (λ (o : List g.row.S-Handle.Denot). IsOpenAt tree.view.number (tree.view.number c.args.block) o
    c.in-Some.start) c.open_elements.ensures c.in-Some.ensures.found in
    walking_begins (tree.view.number c.args.element) (tree.view.number c.args.block) b c.in-Some.start c.requires
    (above_length tree.view.number c.args.self.now.held.open_elements c.in-Some.start _ at.within at.before_it)

pub element_at-node-requires : goal.element_at-node-requires
element_at-node-requires g c =
    let tree = g.S.TreeSink in
    let first = seen tree.view c.args.self.now.held c.args.self.now.sink in
    let now = walk_of tree.view.number c.up.walk (seen tree.view c.up.self.held c.up.self.sink) in
    let open_length = same_length tree.view.number c.up.self.held.open_elements in
    let below = within (tree.view.number c.args.element) (tree.view.number c.args.block) first c.in-Some.start
    c.up.index now
    c.up.invariant in
    omega (arith, open_length, below, c.up-test.true)

pub returns-then-same_node-clause-walked : goal.returns-then-same_node-clause-walked
returns-then-same_node-clause-walked g c =
    let tree = g.S.TreeSink in
    let first = seen tree.view c.args.self.now.held c.args.self.now.sink in
    let now = walk_of tree.view.number c.up.walk (seen tree.view c.up.self.held c.up.self.sink) in
    walk_ends (tree.view.number c.args.element) (tree.view.number c.args.block)
    (tree.view.number c.element_at-node.result) first
    c.in-Some.start c.up.index now c.laws_of_forests.ensures c.up.invariant (omega arith) c.element_at-node.ensures
    (sym c.same_node.ensures ∙ c.if-same_node.true)

pub take_step-requires-clause-sound : goal.take_step-requires-clause-sound
take_step-requires-clause-sound g c = c.up.invariant.walk.sound

pub take_step-requires-clause-open : goal.take_step-requires-clause-open
take_step-requires-clause-open g c =
    let tree = g.S.TreeSink in
    let first = seen tree.view c.args.self.now.held c.args.self.now.sink in
    let now = walk_of tree.view.number c.up.walk (seen tree.view c.up.self.held c.up.self.sink) in
    let n = tree.view.number c.args.element in
    let block = tree.view.number c.args.block in
    let m = tree.view.number c.element_at-node.result in
    next_open n block m first c.in-Some.start (c.up.index - 1) now c.laws_of_forests.ensures
    (walk_next n block m first c.in-Some.start c.up.index now c.laws_of_forests.ensures c.up.invariant (omega arith)
    c.element_at-node.ensures (sym c.same_node.ensures ∙ c.if-same_node.false))

pub take_step-requires-clause-last : goal.take_step-requires-clause-last
take_step-requires-clause-last g c =
    let tree = g.S.TreeSink in
    let first = seen tree.view c.args.self.now.held c.args.self.now.sink in
    let now = walk_of tree.view.number c.up.walk (seen tree.view c.up.self.held c.up.self.sink) in
    let n = tree.view.number c.args.element in
    let block = tree.view.number c.args.block in
    let m = tree.view.number c.element_at-node.result in
    next_below n block m first c.in-Some.start (c.up.index - 1) now c.laws_of_forests.ensures
    (walk_next n block m first c.in-Some.start c.up.index now c.laws_of_forests.ensures c.up.invariant (omega arith)
    c.element_at-node.ensures (sym c.same_node.ensures ∙ c.if-same_node.false))

pub up-preserved : goal.up-preserved
up-preserved g c =
    let tree = g.S.TreeSink in
    let first = seen tree.view c.args.self.now.held c.args.self.now.sink in
    let now = walk_of tree.view.number c.up.walk (seen tree.view c.up.self.held c.up.self.sink) in
    let n = tree.view.number c.args.element in
    let block = tree.view.number c.args.block in
    let m = tree.view.number c.element_at-node.result in
    step_taken n block m first c.in-Some.start (c.up.index - 1) now c.laws_of_forests.ensures
    (walk_next n block m first c.in-Some.start c.up.index now c.laws_of_forests.ensures c.up.invariant (omega arith)
    c.element_at-node.ensures (sym c.same_node.ensures ∙ c.if-same_node.false)) _ _ refl c.in_ok-walk.ensures.seen

pub returns-clause-walked : goal.returns-clause-walked
returns-clause-walked g c =
    let tree = g.S.TreeSink in
    let first = seen tree.view c.args.self.now.held c.args.self.now.sink in
    let now = walk_of tree.view.number c.up.walk (seen tree.view c.up.self.held c.up.self.sink) in
    let some = some_left (tree.view.number c.args.element) (tree.view.number c.args.block) first c.in-Some.start
    c.up.index now
    c.up.invariant in
    absurd (omega (arith, some, c.up-test.false))
