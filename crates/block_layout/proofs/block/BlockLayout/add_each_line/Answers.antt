use Rattle.std.proofs.Common.{rules}
use Rattle.std.specs.Vec.Iter.{into_iter_items}
use Rattle.text_lines.specs.Tagged.{IsJoined}
use Rattle.block_layout.proofs.JoinedLemmas.{next_joined}
use Rattle.block_layout.proofs.block.BlockLayout.add_each_line.Goals as goal

pub loop-line-preserved : goal.loop-line-preserved
loop-line-preserved g c = record {
  laid = search rules;
  joined = λ h all. next_joined (IsJoined g.T.EqualCopy.seen) c.in-Some.line (into_iter_items c.next.new.self)
      (into_iter_items c.loop-line.line-iterator) c.in-Some.ensures.steps.0 c.add_line.ensures.joined
      (c.loop-line.invariant.joined h all);
}
