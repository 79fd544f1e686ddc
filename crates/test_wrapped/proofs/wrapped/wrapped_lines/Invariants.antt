use Rattle.std.proofs.Common.{◌≡◌, take}
use Rattle.std.specs.Prelude.{false}
use Rattle.text_wrapping.specs.Blocks.{block_of, has_failed, HasJoinedLines}
use Rattle.text_wrapping.specs.NormalBlocks.{normal_block}
use Rattle.test_wrapped.proofs.Pieces.{sources}
use Rattle.test_wrapped.proofs.wrapped.wrapped_lines.Given as goal

abbrev pub invariant-loop-piece : goal.invariant-loop-piece
invariant-loop-piece g l =
    record {
      works : has_failed l.block ≡ false;
      joined : HasJoinedLines g.T.EqualCopy.seen l.block;
      block : block_of g.T.EqualCopy.seen l.block ≡ normal_block l.width l.allow_overflow
          (sources g.T.EqualCopy.seen (take l.piece-index l.pieces));
    }
