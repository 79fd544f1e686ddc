use Rattle.std.proofs.Common.{sym, ap, ◌∙◌}
use Rattle.html_lexemes.specs.Queue.{Queue}
use Rattle.html_lexemes.proofs.WaitingLemmas.{none_first, none_left}
use Rattle.html_lexemes.proofs.queue.BufferQueue.is_empty.Goals as goal

pub returns : goal.returns
returns c =
    let text = ap (λ (q : Queue). q.text) c.self.view_is in (
      λ e. sym text ∙ none_left _ _ c.self.invariant (c.is_empty.ensures.0 e),
      λ none. c.is_empty.ensures.1 (none_first _ _ (text ∙ none)),
    )
