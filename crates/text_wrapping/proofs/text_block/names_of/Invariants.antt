use Rattle.std.proofs.Common.{◌≡◌, ◌++◌, length}
use Rattle.text_pieces.specs.Sources.{names, sources_of}
use Rattle.text_preserved.specs.Preserved.{names_of}
use Rattle.text_wrapping.proofs.text_block.names_of.Given as goal

abbrev pub invariant-loop-first : goal.invariant-loop-first
invariant-loop-first g l =
    names l.names.items ++ names_of (sources_of g.T.EqualCopy.seen l.rest)
    ≡ names_of (sources_of g.T.EqualCopy.seen l.pieces)

abbrev pub decreases-loop-first : goal.decreases-loop-first
decreases-loop-first g l = length l.rest
