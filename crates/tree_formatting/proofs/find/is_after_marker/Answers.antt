use Rattle.std.proofs.Common.{sym, ◌∙◌}
use Rattle.tree_formatting.proofs.EntryLemmas.{after_marker_before, after_marker_here, none_after_marker}
use Rattle.tree_formatting.proofs.find.is_after_marker.Goals as goal

pub returns-then-same_node : goal.returns-then-same_node
returns-then-same_node g c =
    let n = g.S.TreeSink.view.number c.args.target in
    sym (after_marker_here g.S.TreeSink.view.number n n c.back.rest.now c.in-Some.before.now
    c.in-Some.handle.now c.in-Some.field-0-1.now c.in-Some.ensures.some
    (sym c.same_node.ensures ∙ c.if-same_node.true))
    ∙ c.back.invariant

pub back-preserved : goal.back-preserved
back-preserved g c =
    let n = g.S.TreeSink.view.number c.args.target in
    sym (after_marker_before g.S.TreeSink.view.number n n c.back.rest.now c.in-Some.before.now
    c.in-Some.handle.now c.in-Some.field-0-1.now c.in-Some.ensures.some
    (sym c.same_node.ensures ∙ c.if-same_node.false))
    ∙ c.back.invariant

pub returns : goal.returns
returns g c =
    let n = g.S.TreeSink.view.number c.args.target in
    sym (none_after_marker g.S.TreeSink.view.number n n c.back.rest.now
    (c.last_element.ensures.none c.in_default.is)) ∙ c.back.invariant
