use Rattle.std.proofs.Common.{chars, string_bytes}
use Rattle.html_lexemes.proofs.WaitingLemmas.{put_waits}
use Rattle.html_lexemes.proofs.queue.BufferQueue.push_front.Goals as goal

pub invariant_of-self : goal.invariant_of-self
invariant_of-self c =
    put_waits c.put_back.result c.self.inside.first c.put_back.new.self (chars (string_bytes c.args.text))
    c.self.inside.later.items c.self.invariant c.put_back.ensures.ok c.put_back.ensures.err
