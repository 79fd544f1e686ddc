use Rattle.std.proofs.Common.{sym, ap, ◌∙◌, ◌++◌, map, append-nil}
use Rattle.text_lines.specs.Tagged.{line_items, tagged, character}
use Rattle.text_borders.specs.Segments.{segment_of}
use Rattle.text_borders.specs.Borders.{line_above}
use Rattle.text_borders.proofs.SegmentLemmas.{nothing_left, more_pushed}
use Rattle.text_borders.proofs.border.push_lines_above.Goals as goal

pub loop-segment-preserved : goal.loop-segment-preserved
loop-segment-preserved g c =
    let seen = g.T.EqualCopy.seen in
    let tag = seen c.args.tag.now in
    record {
      items = more_pushed (line_items seen c.loop-segment.line) _ _
          (character (line_above (segment_of c.in-Some.segment.now)) tag)
          (tagged (map line_above (map segment_of c.in-Some.others.now)) tag) c.in_ok-push_char.ensures.ok
          (ap (λ code. character code tag) c.line_above.ensures)
          ∙ ap (λ ss. line_items seen c.loop-segment.line ++ tagged (map line_above (map segment_of ss)) tag)
          (sym c.in-Some.ensures.cases.0)
          ∙ c.loop-segment.invariant.items;
      joined = λ h. c.push_char.ensures.joined (c.loop-segment.invariant.joined h);
    }

pub returns-clause-items : goal.returns-clause-items
returns-clause-items g c =
    let seen = g.T.EqualCopy.seen in
    sym (ap (λ ss. line_items seen c.loop-segment.line
    ++ tagged (map line_above (map segment_of ss)) (seen c.args.tag.now))
    (nothing_left c.loop-segment.rest.now c.in_default.ensures.cases)
    ∙ append-nil (line_items seen c.loop-segment.line)) ∙ c.loop-segment.invariant.items
