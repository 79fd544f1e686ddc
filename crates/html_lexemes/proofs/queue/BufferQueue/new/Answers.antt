use Rattle.std.proofs.Common.{◌++◌, ap, ◌∙◌, refl, chars}
use Rattle.std.proofs.lemmas.Str.{chars-nil}
use Rattle.html_lexemes.proofs.QueueLemmas.{queue_same}
use Rattle.html_lexemes.specs.QueueParts.{joined}
use Rattle.html_lexemes.proofs.queue.BufferQueue.new.Goals as goal

pub returns : goal.returns
returns c =
    queue_same
    (ap (λ l. l ++ joined c.new-3.result.items) (c.new-2.ensures ∙ ap chars c.new.ensures.bytes ∙ chars-nil)
    ∙ ap joined c.new-3.ensures.items) refl
