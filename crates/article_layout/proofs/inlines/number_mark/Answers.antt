use Rattle.std.proofs.Common.{string_bytes, arith}
use Rattle.std.proofs.lemmas.Result.{IfOk-weaker}
use Rattle.text_block_renderer.proofs.NumberLemmas.{bracketed}
use Rattle.article_layout.proofs.inlines.number_mark.Goals as goal

pub returns : goal.returns
returns c = IfOk-weaker c.format.result _ _
    (λ s h. bracketed c.args.number (string_bytes s) (omega arith) h) c.format.ensures.ok
