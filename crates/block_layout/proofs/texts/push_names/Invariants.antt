use Rattle.std.proofs.Common.{◌≡◌, ◌++◌, map, length}
use Rattle.text_lines.specs.Tagged.{line_items, marker, IsJoined}
use Rattle.text_pieces.specs.Sources.{names}
use Rattle.block_layout.proofs.texts.push_names.Given as goal

abbrev pub invariant-loop-name : goal.invariant-loop-name
invariant-loop-name g l =
    record {
      items : line_items g.T.EqualCopy.seen l.line ++ map (λ name. marker name) (names l.rest)
          ≡ line_items g.T.EqualCopy.seen l.fn.line ++ map (λ name. marker name) (names l.waiting);
      joined : IsJoined g.T.EqualCopy.seen l.fn.line → IsJoined g.T.EqualCopy.seen l.line;
    }

abbrev pub decreases-loop-name : goal.decreases-loop-name
decreases-loop-name g l = length l.rest
