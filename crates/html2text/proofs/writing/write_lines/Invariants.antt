use Rattle.std.proofs.Common.{drop}
use Rattle.html2text.specs.LinesText.{lines_bytes}
use Rattle.html2text.proofs.WritingLemmas.{IsWritten}
use Rattle.html2text.proofs.writing.write_lines.Given as goal

abbrev pub invariant-lines : goal.invariant-lines
invariant-lines g l =
    IsWritten (g.W.ByteWriter.contents l.fn.writer) (g.W.ByteWriter.contents l.writer) (lines_bytes l.lines)
    (lines_bytes (drop l.line-index l.lines))
    (g.W.ByteWriter.has_failed l.fn.writer) (g.W.ByteWriter.has_failed l.writer)
