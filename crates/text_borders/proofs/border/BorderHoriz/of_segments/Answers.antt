use Rattle.std.proofs.Common.{ap, [], map, ◌∙◌}
use Rattle.text_borders.specs.Borders.{hole_of}
use Rattle.text_borders.specs.Segments.{segment_of}
use Rattle.text_borders.proofs.SegmentLemmas.{some_alike}
use Rattle.text_borders.proofs.border.BorderHoriz.of_segments.Goals as goal

pub returns : goal.returns
returns g c =
    let seen = g.T.EqualCopy.seen in
    ap (λ hs. record {
      segments = map segment_of c.push_segments.new.segments.items;
      tag = seen c.args.tag;
      holes = map (hole_of seen) hs;
    }) c.new.ensures.items
    ∙ ap (λ ss. record { segments = ss; tag = seen c.args.tag; holes = [] })
    (some_alike c.in_ok-segments.segments.items c.push_segments.new.segments.items c.args.width c.args.segment
    c.in_ok-segments.ensures.items c.in_ok-push_segments.ensures)
