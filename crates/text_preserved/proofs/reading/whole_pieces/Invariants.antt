use Rattle.std.proofs.Common.{length}
use Rattle.text_preserved.proofs.TrimLemmas.{IsBareAfter}
use Rattle.text_preserved.proofs.reading.whole_pieces.Given as goal

abbrev pub invariant-loop-last : goal.invariant-loop-last
invariant-loop-last g l = IsBareAfter g.T.EqualCopy.seen l.width l.wraps l.pieces l.rest

abbrev pub decreases-loop-last : goal.decreases-loop-last
decreases-loop-last g l = length l.rest
