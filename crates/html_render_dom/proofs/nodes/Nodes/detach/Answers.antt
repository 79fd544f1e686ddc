use Rattle.std.proofs.Common.{sym}
use Rattle.tree_forest.specs.Changes.{detached}
use Rattle.tree_forest.specs.Forest.{children_at}
use Rattle.tree_forest.proofs.LawLists.{standing}
use Rattle.html_render_dom.specs.Nodes.{forest_of}
use Rattle.html_render_dom.proofs.LinkedNodes.{noted_child, stands_nowhere}
use Rattle.html_render_dom.proofs.HeldForests.{beside_held, one_parent, out_held}
use Rattle.std.specs.Prelude.{option_map}
use Rattle.html_render_dom.specs.Numbers.{number_of}
use Rattle.html_render_dom.proofs.nodes.Nodes.detach.Goals as goal

pub take-requires-clause-before : goal.take-requires-clause-before
take-requires-clause-before c = (beside_held c.args.self.now (number_of c.in-Some.parent) (number_of c.args.target)
    (option_map number_of c.child_before-previous.result)
    (option_map number_of c.child_after-next.result) c.requires.linked
    (noted_child c.args.self.now (number_of c.args.target) (number_of c.in-Some.parent) c.requires.linked
    c.in-Some.ensures)
    c.child_before-previous.ensures c.child_after-next.ensures).0

pub take-requires-clause-trailing : goal.take-requires-clause-trailing
take-requires-clause-trailing c = (beside_held c.args.self.now (number_of c.in-Some.parent) (number_of c.args.target)
    (option_map number_of c.child_before-previous.result)
    (option_map number_of c.child_after-next.result) c.requires.linked
    (noted_child c.args.self.now (number_of c.args.target) (number_of c.in-Some.parent) c.requires.linked
    c.in-Some.ensures)
    c.child_before-previous.ensures c.child_after-next.ensures).1

pub returns-in_default-clause-forest : goal.returns-in_default-clause-forest
returns-in_default-clause-forest c =
    let n = (number_of c.args.target) in
    let f = forest_of c.args.self.now in
    let linked = c.requires.linked in
    sym (c.what_a_parent_alone_is_changed_by.ensures.stands_nowhere n f
    (stands_nowhere c.args.self.now n linked c.in_default.ensures
    (λ p. (c.where_children_stand.ensures.parent n p f linked.forest).0)))

pub returns-in-Some-clause-forest : goal.returns-in-Some-clause-forest
returns-in-Some-clause-forest c =
    let f = forest_of c.args.self.now in
    let p = (number_of c.in-Some.parent) in
    let n = (number_of c.args.target) in
    let linked = c.requires.linked in
    let stays = c.what_was_not_named_stays.ensures in
    let child = noted_child c.args.self.now n p linked c.in-Some.ensures in
    let w = standing n (children_at p f) child in
    (out_held c.args.self.now c.take.new.self p n (option_map number_of c.child_before-previous.result)
    (option_map number_of c.child_after-next.result) (detached n f)
    w.front w.rest linked w.whole (c.taking_out_keeps_a_forest.ensures.forest n f linked.forest)
    (c.a_node_taken_out_stands_nowhere.ensures.siblings n p w.front w.rest f linked.forest w.whole)
    (λ q off. stays.taken_out_children n q f (one_parent f n p q linked.forest child off))
    (c.how_many_nodes_there_are.ensures.taken_out n f) (λ m. stays.taken_out_kinds n m f)
    c.take.ensures.kinds c.child_before-previous.ensures c.child_after-next.ensures c.take.ensures.links).0

pub returns-in-Some-clause-linked : goal.returns-in-Some-clause-linked
returns-in-Some-clause-linked c =
    let f = forest_of c.args.self.now in
    let p = (number_of c.in-Some.parent) in
    let n = (number_of c.args.target) in
    let linked = c.requires.linked in
    let stays = c.what_was_not_named_stays.ensures in
    let child = noted_child c.args.self.now n p linked c.in-Some.ensures in
    let w = standing n (children_at p f) child in
    (out_held c.args.self.now c.take.new.self p n (option_map number_of c.child_before-previous.result)
    (option_map number_of c.child_after-next.result) (detached n f)
    w.front w.rest linked w.whole (c.taking_out_keeps_a_forest.ensures.forest n f linked.forest)
    (c.a_node_taken_out_stands_nowhere.ensures.siblings n p w.front w.rest f linked.forest w.whole)
    (λ q off. stays.taken_out_children n q f (one_parent f n p q linked.forest child off))
    (c.how_many_nodes_there_are.ensures.taken_out n f) (λ m. stays.taken_out_kinds n m f)
    c.take.ensures.kinds c.child_before-previous.ensures c.child_after-next.ensures c.take.ensures.links).1
