use Rattle.std.proofs.Common.{sym, ◌∙◌}
use Rattle.tree_formatting.proofs.EntryLemmas.{none_after_without, without_before, without_here, without_it}
use Rattle.tree_formatting.proofs.find.is_after_marker_without.Goals as goal

pub returns-then-same_node : goal.returns-then-same_node
returns-then-same_node g c =
    let n = g.S.TreeSink.view.number c.args.target in
    let m = g.S.TreeSink.view.number c.args.without in
    c.is_after_marker.ensures
    ∙ sym (without_it g.S.TreeSink.view.number n m c.back.rest.now c.in-Some.before.now c.in-Some.handle.now
    c.in-Some.field-0-1.now c.in-Some.ensures.some (sym c.same_node.ensures ∙ c.if-same_node.true))
    ∙ c.back.invariant

pub returns-then-same_node-2 : goal.returns-then-same_node-2
returns-then-same_node-2 g c =
    let n = g.S.TreeSink.view.number c.args.target in
    let m = g.S.TreeSink.view.number c.args.without in
    sym (without_here g.S.TreeSink.view.number n m c.back.rest.now c.in-Some.before.now c.in-Some.handle.now
    c.in-Some.field-0-1.now c.in-Some.ensures.some (sym c.same_node.ensures ∙ c.if-same_node.false)
    (sym c.same_node-in-Some.ensures ∙ c.if-same_node-2.true))
    ∙ c.back.invariant

pub back-preserved : goal.back-preserved
back-preserved g c =
    let n = g.S.TreeSink.view.number c.args.target in
    let m = g.S.TreeSink.view.number c.args.without in
    sym (without_before g.S.TreeSink.view.number n m c.back.rest.now c.in-Some.before.now c.in-Some.handle.now
    c.in-Some.field-0-1.now c.in-Some.ensures.some (sym c.same_node.ensures ∙ c.if-same_node.false)
    (sym c.same_node-in-Some.ensures ∙ c.if-same_node-2.false))
    ∙ c.back.invariant

pub returns : goal.returns
returns g c =
    let n = g.S.TreeSink.view.number c.args.target in
    let m = g.S.TreeSink.view.number c.args.without in
    sym (none_after_without g.S.TreeSink.view.number n m c.back.rest.now
    (c.last_element.ensures.none c.in_default.is)) ∙ c.back.invariant
