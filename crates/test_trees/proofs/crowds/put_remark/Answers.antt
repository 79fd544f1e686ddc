use Rattle.std.proofs.Common.{inl, refl, subst, sym}
use Rattle.std.proofs.lemmas.Result.{on_ok_weaker}
use Rattle.tree_forest.specs.Changes.{made}
use Rattle.tree_forest.specs.Conditions.{IsPlace}
use Rattle.tree_forest.specs.Forest.{comment, nodes}
use Rattle.tree_forest.specs.Orders.{IsIn}
use Rattle.tree_forest.specs.Places.{before, node, put_node}
use Rattle.test_trees.proofs.Crowding.{kept, not_document}
use Rattle.test_trees.proofs.crowds.put_remark.Goals as goal

pub append_before_sibling-requires : goal.append_before_sibling-requires
append_before_sibling-requires g c =
    let cs = c.in_ok-from_str.field-0 in
    rw (c.in_ok-remark.ensures.forest, c.in_ok-remark.ensures.number)
    (c.what_was_made_may_be_put.ensures.leaf (before (g.S.TreeSink.view.number c.args.last)) (comment cs)
    (g.S.TreeSink.view.forest c.args.sink.now) c.requires.0 c.requires.1 refl (not_document cs))

pub returns : goal.returns
returns g c =
    let cs = c.in_ok-from_str.field-0 in
    let f = g.S.TreeSink.view.forest c.args.sink.now in
    let s = g.S.TreeSink.view.number c.args.last in
    let forest = c.making_keeps_a_forest.ensures.leaf (comment cs) f c.requires.0 refl in
    let can = c.what_was_made_may_be_put.ensures.leaf (before s) (comment cs) f c.requires.0 c.requires.1 refl
    (not_document cs) in
    let place : IsPlace (before s) (put_node (before s) (nodes f) (made (comment cs) f)) = (
      c.requires.1.0,
      (c.where_children_stand.ensures.put (before s) (nodes f) s c.requires.1.0 (made (comment cs) f)
          forest can).1 (inl (subst (IsIn s) (sym (c.where_children_stand.ensures.made (comment cs) c.requires.1.0 f))
          c.requires.1.1)),
    ) in
    on_ok_weaker c.append_before_sibling.result
    (λ e. kept s (g.S.TreeSink.view.number c.in_ok-remark.remark) cs f (g.S.TreeSink.view.forest
    c.create_comment.new.self)
    (g.S.TreeSink.view.forest c.append_before_sibling.new.self) c.in_ok-remark.ensures.number
    c.in_ok-remark.ensures.forest e (c.putting_keeps_a_forest.ensures (before s) (node (nodes f))
    (made (comment cs) f) forest can) place) c.append_before_sibling.ensures.forest
