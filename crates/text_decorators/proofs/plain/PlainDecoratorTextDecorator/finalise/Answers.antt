use Rattle.std.proofs.Common.{refl}
use Rattle.std.proofs.lemmas.Result.{IfOk-weaker}
use Rattle.text_decorators.proofs.FootnoteLemmas.{footnotes_as}
use Rattle.text_decorators.proofs.plain.PlainDecoratorTextDecorator.finalise.Goals as goal

pub returns-clause-closes : goal.returns-clause-closes
returns-clause-closes c = IfOk-weaker c.footnotes.result _ _ (λ lines h. footnotes_as (λ _. tt) tt tt _ _ h.2 refl)
    c.footnotes.ensures
