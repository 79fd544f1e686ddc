use Rattle.std.proofs.Common.{string_bytes, arith}
use Rattle.std.proofs.lemmas.Result.{IfOk-weaker}
use Rattle.text_decorators.proofs.Characters.{numbered}
use Rattle.article_layout.proofs.footnotes.note_text.Goals as goal

pub returns : goal.returns
returns c = IfOk-weaker c.format.result _ _
    (λ s h. numbered c.args.number (string_bytes s) c.args.target.now (omega arith) h) c.format.ensures.ok
