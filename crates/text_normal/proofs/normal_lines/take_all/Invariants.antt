use Rattle.std.specs.Vec.Iter.{into_iter_items}
use Rattle.text_pieces.specs.Sources.{sources_of}
use Rattle.text_normal.specs.MarkedStates.{ReadsSources}
use Rattle.text_normal.proofs.normal_lines.take_all.Given as goal

abbrev pub invariant-loop-piece : goal.invariant-loop-piece
invariant-loop-piece g l =
    ReadsSources g.T.EqualCopy.seen l.fn.text l.text (sources_of g.T.EqualCopy.seen l.fn.pieces.items)
    (sources_of g.T.EqualCopy.seen (into_iter_items l.piece-iterator))
