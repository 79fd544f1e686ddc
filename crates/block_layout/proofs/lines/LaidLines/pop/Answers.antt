use Rattle.block_layout.proofs.CountLemmas.{counted_less}
use Rattle.block_layout.proofs.lines.LaidLines.pop.Goals as goal

pub invariant_of-self-2 : goal.invariant_of-self-2
invariant_of-self-2 g c = record {
  counted = counted_less _ _ _ _ _ _ c.args.self.now.counted c.weight.ensures c.saturating_sub-self.ensures
      c.in_ok-last.ensures.count;
}
