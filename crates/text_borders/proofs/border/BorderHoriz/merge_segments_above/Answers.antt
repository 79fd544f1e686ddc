use Rattle.std.proofs.Common.{sym, ap, ◌∙◌, map}
use Rattle.std.specs.Option.{option_map}
use Rattle.text_borders.specs.Segments.{segment_of, with_up, joins_above}
use Rattle.text_borders.specs.Borders.{border_of, with_segments, merged_above}
use Rattle.text_borders.proofs.SegmentLemmas.{merged_more, nothing_left}
use Rattle.text_borders.proofs.border.BorderHoriz.merge_segments_above.Goals as goal

pub loop-segment-preserved : goal.loop-segment-preserved
loop-segment-preserved g c =
    let seen = g.T.EqualCopy.seen in
    let b = border_of seen c.loop-segment.self in
    ap (merged_above (map segment_of c.in-Some.others.now) c.in_ok-column.column) c.in_ok-take_above.ensures
    ∙ ap (λ ss. with_segments ss b) (merged_more (option_map with_up) joins_above (segment_of c.in-Some.segment.now)
    (map segment_of c.in-Some.others.now) c.loop-segment.column c.in_ok-column.column b c.in_ok-column.ensures)
    ∙ ap (λ ss. merged_above (map segment_of ss) c.loop-segment.column b) (sym c.in-Some.ensures.cases.0)
    ∙ c.loop-segment.invariant

pub returns : goal.returns
returns g c =
    let seen = g.T.EqualCopy.seen in
    let b = border_of seen c.loop-segment.self in
    sym (ap (λ ss. merged_above (map segment_of ss) c.loop-segment.column b) (nothing_left c.loop-segment.rest.now
    c.in_default.ensures.cases)) ∙ c.loop-segment.invariant
