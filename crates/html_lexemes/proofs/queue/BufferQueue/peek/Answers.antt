use Rattle.std.proofs.Common.{ap, ◌∙◌, slice_get}
use Rattle.html_lexemes.specs.Queue.{Queue}
use Rattle.html_lexemes.proofs.WaitingLemmas.{first_of_first}
use Rattle.html_lexemes.proofs.queue.BufferQueue.peek.Goals as goal

pub returns : goal.returns
returns c =
    c.peek.ensures ∙ first_of_first _ _ c.self.invariant ∙
    ap (λ (q : Queue). slice_get q.text 0) c.self.view_is
