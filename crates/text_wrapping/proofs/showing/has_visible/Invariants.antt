use Rattle.std.proofs.Common.{◌≡◌, length}
use Rattle.text_pieces.specs.Sources.{sources_of}
use Rattle.text_wrapping.specs.Blocks.{has_visible}
use Rattle.text_wrapping.proofs.showing.has_visible.Given as goal

abbrev pub invariant-loop-piece : goal.invariant-loop-piece
invariant-loop-piece g l = has_visible (sources_of g.T.EqualCopy.seen l.rest)
    ≡ has_visible (sources_of g.T.EqualCopy.seen l.pieces)

abbrev pub decreases-loop-piece : goal.decreases-loop-piece
decreases-loop-piece g l = length l.rest
