use Rattle.std.proofs.Common.{string_bytes, arith}
use Rattle.std.proofs.lemmas.Result.{IfOk-weaker}
use Rattle.example_link_counting.proofs.Characters.{numbered_end}
use Rattle.example_link_counting.proofs.link_counter.LinkCounterTextDecorator.decorate_link_end.Goals as goal

pub returns-clause-text : goal.returns-clause-text
returns-clause-text c = IfOk-weaker c.format.result _ _
    (λ s h. numbered_end c.args.self.now.links (string_bytes s) (omega arith) h) c.format.ensures.ok
