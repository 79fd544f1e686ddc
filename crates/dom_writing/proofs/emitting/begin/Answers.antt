use Rattle.std.proofs.Common.{◌∙◌}
use Rattle.html_render_dom.specs.ChildNodes.{children_left}
use Rattle.html_render_dom.specs.Numbers.{number_of}
use Rattle.tree_serializer.specs.Calls.{start}
use Rattle.dom_writing.specs.Turns.{pending}
use Rattle.dom_writing.proofs.StepLemmas.{begin_step, begun, cut_err, memory_err}
use Rattle.dom_writing.proofs.emitting.begin.Goals as goal

pub returns-in_err-start_elem-clause-err : goal.returns-in_err-start_elem-clause-err
returns-in_err-start_elem-clause-err g c =
    let f = c.args.dom.now.forest in
    cut_err g.S.Serializer.means _ _ (start c.args.name.now c.as_slice.result.now) _ _ c.in_err-start_elem.field-0.0
    c.from_residual.result
    (begun f (number_of c.args.node) c.args.name.now c.as_slice.result.now (pending f c.args.turns.now.items)
    (λ n. c.a_walk_goes_one_step_on.ensures f n c.requires.ready.0) c.requires.ready.1.0 c.requires.read.0
    (c.as_slice.ensures ∙ c.requires.read.1))
    c.in_err-start_elem.ensures c.from_residual.ensures.1

pub returns-in_err-push-clause-err : goal.returns-in_err-push-clause-err
returns-in_err-push-clause-err g c =
    let f = c.args.dom.now.forest in
    memory_err g.S.Serializer.means _ _ (start c.args.name.now c.as_slice.result.now) _ _
    c.from_residual-in_err-push.result
    (begun f (number_of c.args.node) c.args.name.now c.as_slice.result.now (pending f c.args.turns.now.items)
    (λ n. c.a_walk_goes_one_step_on.ensures f n c.requires.ready.0) c.requires.ready.1.0 c.requires.read.0
    (c.as_slice.ensures ∙ c.requires.read.1))
    c.in_ok-start_elem.ensures c.from_residual-in_err-push.ensures.1

pub returns-in_err-push_visits-clause-err : goal.returns-in_err-push_visits-clause-err
returns-in_err-push_visits-clause-err g c =
    let f = c.args.dom.now.forest in
    memory_err g.S.Serializer.means _ _ (start c.args.name.now c.as_slice.result.now) _ _
    c.from_residual-in_err-push_visits.result
    (begun f (number_of c.args.node) c.args.name.now c.as_slice.result.now (pending f c.args.turns.now.items)
    (λ n. c.a_walk_goes_one_step_on.ensures f n c.requires.ready.0) c.requires.ready.1.0 c.requires.read.0
    (c.as_slice.ensures ∙ c.requires.read.1))
    c.in_ok-start_elem.ensures c.from_residual-in_err-push_visits.ensures.1

pub returns-clause-ok : goal.returns-clause-ok
returns-clause-ok g c =
    let f = c.args.dom.now.forest in
    begin_step g.S.Serializer.means f _ _ c.args.node c.args.name.now c.as_slice.result.now
    (children_left c.inner.result)
    c.args.turns.now.items c.push.new.self.items c.push_visits.new.turns.items
    (λ n. c.a_walk_goes_one_step_on.ensures f n c.requires.ready.0) c.requires.ready.0 c.requires.ready.1.0
    c.requires.ready.1.1 c.inner.ensures c.requires.read.0 (c.as_slice.ensures ∙ c.requires.read.1)
    c.in_ok-push.ensures.items c.in_ok-push_visits.ensures c.in_ok-start_elem.ensures
