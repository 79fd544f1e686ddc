use Rattle.std.proofs.Common.{◌≡◌, map, length}
use Rattle.text_borders.specs.Segments.{segment_of}
use Rattle.text_borders.specs.Borders.{border_of, merged_above}
use Rattle.text_borders.proofs.border.BorderHoriz.merge_segments_above.Given as goal

abbrev pub invariant-loop-segment : goal.invariant-loop-segment
invariant-loop-segment g l =
    let seen = g.T.EqualCopy.seen in
    merged_above (map segment_of l.rest) l.column (border_of seen l.self)
    ≡ merged_above (map segment_of l.segments) l.place (border_of seen l.fn.self)

abbrev pub decreases-loop-segment : goal.decreases-loop-segment
decreases-loop-segment g l = length l.rest
