use Rattle.std.proofs.Common.{ap}
use Rattle.std.proofs.lemmas.Result.{IfOk-weaker}
use Rattle.text_decorators.proofs.FootnoteLemmas.{footnotes_as}
use Rattle.text_decorators.specs.Annotations.{rich_tag}
use Rattle.text_decorators.specs.declared.annotation.RichAnnotation.TheVariants.{Default}
use Rattle.text_decorators.proofs.rich.RichDecoratorTextDecorator.finalise.Goals as goal

pub returns-clause-closes : goal.returns-clause-closes
returns-clause-closes c = IfOk-weaker c.footnotes.result _ _
    (λ lines h. footnotes_as rich_tag _ Default _ _ h.2 (ap rich_tag h.1)) c.footnotes.ensures
