use Rattle.std.proofs.Common.{◌≡◌, ◌++◌, map, length}
use Rattle.text_lines.specs.Tagged.{line_items, tagged, IsJoined}
use Rattle.text_borders.specs.Segments.{segment_of}
use Rattle.text_borders.specs.Borders.{line_above}
use Rattle.text_borders.proofs.border.push_lines_above.Given as goal

abbrev pub invariant-loop-segment : goal.invariant-loop-segment
invariant-loop-segment g l =
    let seen = g.T.EqualCopy.seen in
    record {
      items : line_items seen l.line ++ tagged (map line_above (map segment_of l.rest)) (seen l.tag)
          ≡ line_items seen l.fn.line ++ tagged (map line_above (map segment_of l.segments)) (seen l.tag);
      joined : IsJoined seen l.fn.line → IsJoined seen l.line;
    }

abbrev pub decreases-loop-segment : goal.decreases-loop-segment
decreases-loop-segment g l = length l.rest
