use Rattle.std.proofs.Common.{length}
use Rattle.text_pieces.specs.Sources.{sources_of}
use Rattle.text_normal.specs.MarkedStates.{ReadsSources}
use Rattle.text_normal.proofs.normal_lines.read_all.Given as goal

abbrev pub invariant-loop-first : goal.invariant-loop-first
invariant-loop-first g l =
    ReadsSources g.T.EqualCopy.seen l.fn.text l.text (sources_of g.T.EqualCopy.seen l.pieces)
    (sources_of g.T.EqualCopy.seen l.rest)

abbrev pub decreases-loop-first : goal.decreases-loop-first
decreases-loop-first g l = length l.rest
