use Rattle.std.proofs.Common.{length}
use Rattle.text_lines.specs.Elements.{AreJoined}
use Rattle.text_lines.proofs.joining.are_joined.Given as goal

abbrev pub invariant-loop-first : goal.invariant-loop-first
invariant-loop-first g l = AreJoined g.T.EqualCopy.seen l.rest → AreJoined g.T.EqualCopy.seen l.elements

abbrev pub decreases-loop-first : goal.decreases-loop-first
decreases-loop-first g l = length l.rest
