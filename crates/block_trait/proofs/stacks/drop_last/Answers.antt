use Rattle.std.proofs.Common.{arith}
use Rattle.block_trait.proofs.StackLemmas.{dropped}
use Rattle.block_trait.proofs.stacks.drop_last.Goals as goal

pub returns : goal.returns
returns g c = dropped c.pop-last.result c.args.items.now.items c.pop-last.new.self.items _ _
    (omega (arith, c.args.items.now.ok.0)) c.pop-last.ensures.items c.pop-last.ensures.cases
