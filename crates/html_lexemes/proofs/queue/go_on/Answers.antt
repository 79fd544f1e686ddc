use Rattle.html_lexemes.proofs.WaitingLemmas.{next_waits}
use Rattle.html_lexemes.proofs.queue.go_on.Goals as goal

pub returns-in-Some-clause-waiting : goal.returns-in-Some-clause-waiting
returns-in-Some-clause-waiting c =
    next_waits c.args.later.now.items c.pop_front.new.self.items c.in-Some.text c.new.result c.requires
    c.in-Some.ensures.items c.new.ensures
