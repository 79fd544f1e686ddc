use Rattle.std.proofs.Common.{◌≡◌, ◌++◌, map, length}
use Rattle.text_lines.specs.Tagged.{line_items, IsJoined}
use Rattle.text_borders.specs.Segments.{segment_of}
use Rattle.text_borders.specs.Borders.{hole_of, shown_from}
use Rattle.text_borders.proofs.border.push_shown.Given as goal

abbrev pub invariant-loop-hole : goal.invariant-loop-hole
invariant-loop-hole g l =
    let seen = g.T.EqualCopy.seen in
    record {
      items : line_items seen l.line
          ++ shown_from (seen l.tag) l.at (map segment_of l.rest) (map (hole_of seen) l.left)
          ≡ line_items seen l.fn.line
          ++ shown_from (seen l.tag) 0 (map segment_of l.segments) (map (hole_of seen) l.holes);
      joined : IsJoined seen l.fn.line → IsJoined seen l.line;
    }

abbrev pub decreases-loop-hole : goal.decreases-loop-hole
decreases-loop-hole g l = length l.left
