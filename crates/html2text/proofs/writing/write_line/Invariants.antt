use Rattle.std.proofs.Common.{◌++◌}
use Rattle.std.specs.Slice.Iter.{iter_rest}
use Rattle.html2text.specs.LinesText.{line_bytes, elements_bytes, newline}
use Rattle.html2text.proofs.WritingLemmas.{IsWritten}
use Rattle.html2text.proofs.writing.write_line.Given as goal

abbrev pub invariant-elements : goal.invariant-elements
invariant-elements g l =
    IsWritten (g.W.ByteWriter.contents l.fn.writer) (g.W.ByteWriter.contents l.writer) (line_bytes l.line)
    (elements_bytes (iter_rest l.element-iterator) ++ newline)
    (g.W.ByteWriter.has_failed l.fn.writer) (g.W.ByteWriter.has_failed l.writer)
