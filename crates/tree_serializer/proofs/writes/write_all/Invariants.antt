use Rattle.std.proofs.Common.{length}
use Rattle.tree_serializer.proofs.GrowthLemmas.{IsWriting}
use Rattle.tree_serializer.proofs.writes.write_all.Given as goal

-- what was written and the rest are the bytes; a writer that had failed still has
abbrev pub invariant-bytes : goal.invariant-bytes
invariant-bytes g l =
    IsWriting (g.W.ByteWriter.contents l.fn.writer) (g.W.ByteWriter.contents l.writer) l.fn.bytes l.rest
    (g.W.ByteWriter.has_failed l.fn.writer) (g.W.ByteWriter.has_failed l.writer)

abbrev pub decreases-bytes : goal.decreases-bytes
decreases-bytes g l = length l.rest
