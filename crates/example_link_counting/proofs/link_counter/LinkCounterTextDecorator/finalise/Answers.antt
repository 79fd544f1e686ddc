use Rattle.std.proofs.lemmas.Result.{IfOk-weaker}
use Rattle.example_link_counting.specs.declared.link_note.LinkNote.TheVariants.{Outside}
use Rattle.text_decorators.proofs.FootnoteLemmas.{footnotes_as}
use Rattle.example_link_counting.proofs.link_counter.LinkCounterTextDecorator.finalise.Goals as goal

pub returns-clause-closes : goal.returns-clause-closes
returns-clause-closes c = IfOk-weaker c.footnotes.result _ _
    (λ lines h. footnotes_as (λ note. note) _ Outside _ _ h.2 h.1) c.footnotes.ensures
