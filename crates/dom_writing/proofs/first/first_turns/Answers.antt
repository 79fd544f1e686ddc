use Rattle.std.proofs.Common.{ap, sym, ◌∙◌}
use Rattle.html_render_dom.specs.ChildNodes.{children_left}
use Rattle.html_render_dom.specs.Numbers.{number_of}
use Rattle.tree_serializer.specs.Walks.{calls_of}
use Rattle.dom_writing.proofs.StepLemmas.{first_document, first_inner, first_ready}
use Rattle.dom_writing.proofs.first.first_turns.Goals as goal

pub returns-then-stands_for_document-clause-calls : goal.returns-then-stands_for_document-clause-calls
returns-then-stands_for_document-clause-calls c =
    let f = c.args.dom.now.forest in
    first_inner f c.push_visits.new.turns.items c.new-turns.result.items (children_left c.inner.result)
    (number_of c.args.node)
    c.new-turns.ensures.items c.in_ok-push_visits-in-IncludeNode.ensures c.inner.ensures
    ∙ first_document f (number_of c.args.node) (λ n. c.a_walk_goes_one_step_on.ensures f n c.requires)
    c.if-stands_for_document.ensures
    ∙ sym (ap (λ s. calls_of s (number_of c.args.node) f) c.in-IncludeNode.is)

pub returns-then-stands_for_document-clause-ready : goal.returns-then-stands_for_document-clause-ready
returns-then-stands_for_document-clause-ready c =
    first_ready c.args.dom.now.forest c.push_visits.new.turns.items c.new-turns.result.items
    (children_left c.inner.result)
    (number_of c.args.node) c.requires
    c.new-turns.ensures.items c.in_ok-push_visits-in-IncludeNode.ensures c.inner.ensures

pub returns-in_ok-push_visits-in-ChildrenOnly-clause-calls : goal.returns-in_ok-push_visits-in-ChildrenOnly-clause-calls
returns-in_ok-push_visits-in-ChildrenOnly-clause-calls c =
    first_inner c.args.dom.now.forest c.push_visits-in-ChildrenOnly.new.turns.items c.new-turns.result.items
    (children_left c.inner-in-ChildrenOnly.result) (number_of c.args.node) c.new-turns.ensures.items
    c.in_ok-push_visits-in-ChildrenOnly.ensures c.inner-in-ChildrenOnly.ensures
    ∙ sym (ap (λ s. calls_of s (number_of c.args.node) c.args.dom.now.forest) c.in-ChildrenOnly.is)

pub returns-in_ok-push_visits-in-ChildrenOnly-clause-ready : goal.returns-in_ok-push_visits-in-ChildrenOnly-clause-ready
returns-in_ok-push_visits-in-ChildrenOnly-clause-ready c =
    first_ready c.args.dom.now.forest c.push_visits-in-ChildrenOnly.new.turns.items c.new-turns.result.items
    (children_left c.inner-in-ChildrenOnly.result) (number_of c.args.node) c.requires c.new-turns.ensures.items
    c.in_ok-push_visits-in-ChildrenOnly.ensures c.inner-in-ChildrenOnly.ensures
