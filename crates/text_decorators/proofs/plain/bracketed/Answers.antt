use Rattle.std.proofs.Common.{string_bytes}
use Rattle.std.proofs.lemmas.Result.{IfOk-weaker}
use Rattle.text_decorators.proofs.Characters.{bracketed}
use Rattle.text_decorators.proofs.plain.bracketed.Goals as goal

pub returns : goal.returns
returns c = IfOk-weaker c.format.result _ _ (λ s h. bracketed (string_bytes s) c.args.text.now c.utf8.text h)
    c.format.ensures.ok
