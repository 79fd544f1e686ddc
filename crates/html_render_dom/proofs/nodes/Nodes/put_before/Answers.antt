use Rattle.std.proofs.Common.{refl}
use Rattle.tree_forest.specs.Forest.{children_at}
use Rattle.tree_forest.specs.Places.{before, node, put_node}
use Rattle.tree_forest.proofs.LawLists.{standing}
use Rattle.html_render_dom.specs.Nodes.{forest_of}
use Rattle.html_render_dom.proofs.LinkedNodes.{noted_child}
use Rattle.html_render_dom.proofs.HeldForests.{before_held, beside_held, no_parent, one_parent}
use Rattle.std.specs.Prelude.{option_map}
use Rattle.html_render_dom.specs.Numbers.{number_of}
use Rattle.html_render_dom.proofs.nodes.Nodes.put_before.Goals as goal

pub unreachable-requires : goal.unreachable-requires
unreachable-requires c = no_parent c.args.self.now (number_of c.args.sibling) c.requires.place.0 c.requires.linked
    c.in_default.ensures c.requires.place.1

pub put-requires-clause-before : goal.put-requires-clause-before
put-requires-clause-before c = (beside_held c.args.self.now (number_of c.in-Some.parent) (number_of c.args.sibling)
    (option_map number_of c.child_before-previous.result) _
    c.requires.linked (noted_child c.args.self.now (number_of c.args.sibling) (number_of c.in-Some.parent)
    c.requires.linked c.in-Some.ensures)
    c.child_before-previous.ensures refl).0

pub returns-clause-forest : goal.returns-clause-forest
returns-clause-forest c =
    let f = forest_of c.args.self.now in
    let p = (number_of c.in-Some.parent) in
    let s = (number_of c.args.sibling) in
    let n = (number_of c.args.child) in
    let linked = c.requires.linked in
    let stays = c.what_was_not_named_stays.ensures in
    let child = noted_child c.args.self.now s p linked c.in-Some.ensures in
    let w = standing s (children_at p f) child in
    (before_held c.args.self.now c.put.new.self p n s (option_map number_of c.child_before-previous.result)
    (put_node (before s) n f) w.front w.rest
    linked c.requires.can w.whole
    (c.putting_keeps_a_forest.ensures (before s) (node n) f linked.forest (c.requires.place, c.requires.can))
    (c.a_node_stands_where_it_was_put.ensures.before s n p w.front w.rest f linked.forest w.whole)
    (λ q off. stays.put_children (before s) n q f linked.forest c.requires.place
    (λ e. one_parent f s p q linked.forest child off ((c.where_children_stand.ensures.parent s q f linked.forest).0 e)))
    (c.how_many_nodes_there_are.ensures.put (before s) n f) (λ m. stays.put_kinds (before s) n m f)
    c.put.ensures.kinds c.child_before-previous.ensures c.put.ensures.links).0

pub returns-clause-linked : goal.returns-clause-linked
returns-clause-linked c =
    let f = forest_of c.args.self.now in
    let p = (number_of c.in-Some.parent) in
    let s = (number_of c.args.sibling) in
    let n = (number_of c.args.child) in
    let linked = c.requires.linked in
    let stays = c.what_was_not_named_stays.ensures in
    let child = noted_child c.args.self.now s p linked c.in-Some.ensures in
    let w = standing s (children_at p f) child in
    (before_held c.args.self.now c.put.new.self p n s (option_map number_of c.child_before-previous.result)
    (put_node (before s) n f) w.front w.rest
    linked c.requires.can w.whole
    (c.putting_keeps_a_forest.ensures (before s) (node n) f linked.forest (c.requires.place, c.requires.can))
    (c.a_node_stands_where_it_was_put.ensures.before s n p w.front w.rest f linked.forest w.whole)
    (λ q off. stays.put_children (before s) n q f linked.forest c.requires.place
    (λ e. one_parent f s p q linked.forest child off ((c.where_children_stand.ensures.parent s q f linked.forest).0 e)))
    (c.how_many_nodes_there_are.ensures.put (before s) n f) (λ m. stays.put_kinds (before s) n m f)
    c.put.ensures.kinds c.child_before-previous.ensures c.put.ensures.links).1
