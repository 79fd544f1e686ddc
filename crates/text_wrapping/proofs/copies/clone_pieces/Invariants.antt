use Rattle.std.proofs.Common.{◌≡◌, ◌++◌, length}
use Rattle.text_pieces.specs.Sources.{sources_of}
use Rattle.text_wrapping.proofs.copies.clone_pieces.Given as goal

abbrev pub invariant-loop-piece : goal.invariant-loop-piece
invariant-loop-piece g l =
    let seen = g.T.EqualCopy.seen in
    sources_of seen l.all.items ++ sources_of seen l.rest ≡ sources_of seen l.pieces

abbrev pub decreases-loop-piece : goal.decreases-loop-piece
decreases-loop-piece g l = length l.rest
