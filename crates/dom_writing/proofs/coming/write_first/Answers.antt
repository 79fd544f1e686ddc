use Rattle.std.proofs.Common.{◌+◌, ◌≡◌, vec_len}
use Rattle.html_render_dom.specs.ChildNodes.{children_left}
use Rattle.dom_writing.proofs.ComingLemmas.{both_next, children_next, next_step, others_next, popped_next}
use Rattle.dom_writing.proofs.coming.write_first.Goals as goal

pub returns-in_default-other : goal.returns-in_default-other
returns-in_default-other c = next_step c.args.dom.now.forest c.args.first c.in_ok-below.below
    (children_left c.children-children.result) c.args.coming.now.items _ c.args.lines.now c.push_line.new.lines
    (λ level n. c.a_dump_goes_one_step_on.ensures c.args.dom.now.forest level n c.document.ensures.forest)
    c.in_ok-below.ensures c.in_ok-push_line.ensures c.children-children.ensures
    (popped_next c.args.coming.now.items c.pop.new.self.items c.pop.result (vec_len c.args.coming.now)
    (vec_len c.pop.new.self ≡ 0) (λ last. vec_len c.pop.new.self + 1 ≡ vec_len c.args.coming.now)
    c.args.first.level c.in_ok-below.below (children_left c.args.first.others)
    (children_left c.children-children.result) c.in_default-other.ensures.steps.0 c.in_default.ensures.steps.0
    c.pop.ensures.items c.pop.ensures.cases c.pop.ensures.rest)

pub returns-in_default : goal.returns-in_default
returns-in_default c = next_step c.args.dom.now.forest c.args.first c.in_ok-below.below
    (children_left c.children-children.result) c.args.coming.now.items _ c.args.lines.now c.push_line.new.lines
    (λ level n. c.a_dump_goes_one_step_on.ensures c.args.dom.now.forest level n c.document.ensures.forest)
    c.in_ok-below.ensures c.in_ok-push_line.ensures c.children-children.ensures
    (others_next c.args.coming.now.items c.args.first.level c.in_ok-below.below (children_left c.args.first.others)
    (children_left c.next-other.new.self) (children_left c.children-children.result) c.in-Some-other.other
    c.in-Some-other.ensures.steps c.in_default.ensures.steps.0)

pub returns-in_default-other-2 : goal.returns-in_default-other-2
returns-in_default-other-2 c = next_step c.args.dom.now.forest c.args.first c.in_ok-below.below
    (children_left c.children-children.result) c.args.coming.now.items _ c.args.lines.now c.push_line.new.lines
    (λ level n. c.a_dump_goes_one_step_on.ensures c.args.dom.now.forest level n c.document.ensures.forest)
    c.in_ok-below.ensures c.in_ok-push_line.ensures c.children-children.ensures
    (children_next c.args.coming.now.items c.args.first.level c.in_ok-below.below (children_left c.args.first.others)
    (children_left c.children-children.result) (children_left c.next.new.self) c.in-Some.child
    c.in_default-other-2.ensures.steps.0 c.in-Some.ensures.steps)

pub returns : goal.returns
returns c = next_step c.args.dom.now.forest c.args.first c.in_ok-below.below
    (children_left c.children-children.result) c.args.coming.now.items _ c.args.lines.now c.push_line.new.lines
    (λ level n. c.a_dump_goes_one_step_on.ensures c.args.dom.now.forest level n c.document.ensures.forest)
    c.in_ok-below.ensures c.in_ok-push_line.ensures c.children-children.ensures
    (both_next c.args.coming.now.items c.push.new.self.items c.args.first.level c.in_ok-below.below
    (children_left c.args.first.others) (children_left c.next-other.new.self)
    (children_left c.children-children.result) (children_left c.next.new.self) c.in-Some-other-2.other c.in-Some.child
    c.in-Some-other-2.ensures.steps c.in-Some.ensures.steps c.in_ok-push.ensures.items)
