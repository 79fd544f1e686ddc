use Rattle.std.proofs.Common.{arith}
use Rattle.article_values.specs.Sizes.{inline_size}
use Rattle.article_values.proofs.LettingGo.{last_taken}
use Rattle.article_values.proofs.values.Inline.next.Goals as goal

pub returns-in-None : goal.returns-in-None
returns-in-None c = last_taken _ _ inline_size (inline_size c.args.self) c.args.waiting.now.items
    c.pop.new.self.items c.args.waiting.now.items _ c.pop.result (omega arith) c.pop.ensures.items c.pop.ensures.cases
