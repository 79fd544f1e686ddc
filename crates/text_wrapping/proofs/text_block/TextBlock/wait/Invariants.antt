use Rattle.std.proofs.Common.{◌≡◌}
use Rattle.std.specs.Vec.Iter.{into_iter_items}
use Rattle.text_pieces.specs.Sources.{names, fragments}
use Rattle.text_wrapping.specs.Blocks.{text_of, after_sources, with_source, AreJoinedLines}
use Rattle.text_wrapping.proofs.text_block.TextBlock.wait.Given as goal

abbrev pub invariant-loop-name : goal.invariant-loop-name
invariant-loop-name g l =
    let seen = g.T.EqualCopy.seen in
    record {
      waits : after_sources (fragments (names (into_iter_items l.name-iterator))) (text_of seen l.self)
          ≡ with_source (fragments (names l.fn.waiting.items)) (text_of seen l.fn.self);
      joined : AreJoinedLines seen l.fn.self → AreJoinedLines seen l.self;
    }
