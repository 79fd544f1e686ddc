use Rattle.std.proofs.Common.{ap}
use Rattle.html_lexemes.specs.Queue.{Queue}
use Rattle.html_lexemes.proofs.EatenLemmas.{all_eaten, begun, taken_more}
use Rattle.html_lexemes.proofs.queue.BufferQueue.eat.Goals as goal

pub eaten-preserved : goal.eaten-preserved
eaten-preserved g c =
    let begins =
    begun _ _ _ _ c.in_ok-begins_with.field-0 c.if-not-branch.false (ap (λ (q : Queue). q.text) c.self.view_is)
    c.in_ok-begins_with.ensures in
    taken_more _ c.args.self.now c.eaten.self _ _ _ begins c.eaten.invariant c.next-in-eaten.new.self
    c.next-in-eaten.result c.in-Some.field-0 _ c.next-in-eaten.ensures.takes c.in-Some.ensures.steps.0

pub returns : goal.returns
returns g c =
    let begins =
    begun _ _ _ _ c.in_ok-begins_with.field-0 c.if-not-branch.false (ap (λ (q : Queue). q.text) c.self.view_is)
    c.in_ok-begins_with.ensures in
    all_eaten _ c.args.self.now c.eaten.self _ _ _ begins c.eaten.invariant c.in-None.ensures.steps.0.0
