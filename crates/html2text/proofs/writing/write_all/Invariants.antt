use Rattle.std.proofs.Common.{length}
use Rattle.html2text.proofs.WritingLemmas.{IsWritten}
use Rattle.html2text.proofs.writing.write_all.Given as goal

-- what was written and the rest are the bytes; a writer that had failed still has
abbrev pub invariant-bytes : goal.invariant-bytes
invariant-bytes g l =
    IsWritten (g.W.ByteWriter.contents l.fn.writer) (g.W.ByteWriter.contents l.writer) l.fn.bytes l.rest
    (g.W.ByteWriter.has_failed l.fn.writer) (g.W.ByteWriter.has_failed l.writer)

abbrev pub decreases-bytes : goal.decreases-bytes
decreases-bytes g l = length l.rest
