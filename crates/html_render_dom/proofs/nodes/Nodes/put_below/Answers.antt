use Rattle.std.proofs.Common.{sym}
use Rattle.tree_forest.specs.Places.{below, node, put_node}
use Rattle.tree_forest.proofs.Nodes.{same_some}
use Rattle.html_render_dom.specs.Nodes.{forest_of}
use Rattle.html_render_dom.proofs.HeldForests.{below_held, last_held}
use Rattle.std.specs.Prelude.{option_map}
use Rattle.html_render_dom.specs.Numbers.{number_of}
use Rattle.html_render_dom.proofs.nodes.Nodes.put_below.Goals as goal

pub put-requires-clause-before : goal.put-requires-clause-before
put-requires-clause-before c =
    last_held c.args.self.now (number_of c.args.parent) (option_map number_of c.child_before-last.result)
    c.requires.linked c.requires.place c.child_before-last.ensures

pub returns-clause-forest : goal.returns-clause-forest
returns-clause-forest c =
    let f = forest_of c.args.self.now in
    let p = (number_of c.args.parent) in
    let n = (number_of c.args.child) in
    let linked = c.requires.linked in
    let stays = c.what_was_not_named_stays.ensures in
    (below_held c.args.self.now c.put.new.self p n (option_map number_of c.child_before-last.result)
    (put_node (below p) n f) linked c.requires.place
    c.requires.can (c.putting_keeps_a_forest.ensures (below p) (node n) f linked.forest
    (c.requires.place, c.requires.can))
    (c.a_node_stands_where_it_was_put.ensures.below p n f c.requires.place)
    (λ q off. stays.put_children (below p) n q f linked.forest c.requires.place (λ e. off (sym (same_some p q e))))
    (c.how_many_nodes_there_are.ensures.put (below p) n f) (λ m. stays.put_kinds (below p) n m f)
    c.put.ensures.kinds c.child_before-last.ensures c.put.ensures.links).0

pub returns-clause-linked : goal.returns-clause-linked
returns-clause-linked c =
    let f = forest_of c.args.self.now in
    let p = (number_of c.args.parent) in
    let n = (number_of c.args.child) in
    let linked = c.requires.linked in
    let stays = c.what_was_not_named_stays.ensures in
    (below_held c.args.self.now c.put.new.self p n (option_map number_of c.child_before-last.result)
    (put_node (below p) n f) linked c.requires.place
    c.requires.can (c.putting_keeps_a_forest.ensures (below p) (node n) f linked.forest
    (c.requires.place, c.requires.can))
    (c.a_node_stands_where_it_was_put.ensures.below p n f c.requires.place)
    (λ q off. stays.put_children (below p) n q f linked.forest c.requires.place (λ e. off (sym (same_some p q e))))
    (c.how_many_nodes_there_are.ensures.put (below p) n f) (λ m. stays.put_kinds (below p) n m f)
    c.put.ensures.kinds c.child_before-last.ensures c.put.ensures.links).1
