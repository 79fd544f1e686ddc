use Rattle.std.proofs.Common.{sym, ap, ◌∙◌, ◌++◌, ◌-◌, map}
use Rattle.text_lines.specs.Tagged.{line_items}
use Rattle.text_borders.specs.Segments.{segment_of}
use Rattle.text_borders.specs.Borders.{hole_of, shown_from}
use Rattle.text_borders.proofs.SegmentLemmas.{front_is, rest_is, more_shown}
use Rattle.text_borders.proofs.border.push_shown.Goals as goal

pub loop-hole-preserved : goal.loop-hole-preserved
loop-hole-preserved g c =
    let seen = g.T.EqualCopy.seen in
    let tag = seen c.args.tag.now in
    let h = hole_of seen c.in-Some.hole.now in
    let old = line_items seen c.loop-hole.line in
    record {
      items = more_shown tag c.loop-hole.at c.in_ok-end.end (map segment_of c.loop-hole.rest.now) _ _ h
          (map (hole_of seen) c.in-Some.others.now) old _ _
          (front_is _ _ c.front_of-front.result.now c.loop-hole.rest.now c.front_of-front.ensures c.saturating_sub.ensures)
          c.in_ok-end.ensures
          (rest_is _ _ c.after_of-rest.result.now c.loop-hole.rest.now c.after_of-rest.ensures
          (c.saturating_sub-in-Some.ensures ∙ ap (λ n. n - c.loop-hole.at) c.in_ok-end.ensures))
          c.in_ok-push_glyphs.ensures.items c.in_ok-push_line.ensures.ok
          ∙ ap (λ hs. old ++ shown_from tag c.loop-hole.at (map segment_of c.loop-hole.rest.now)
          (map (hole_of seen) hs))
          (sym c.in-Some.ensures.cases.0)
          ∙ c.loop-hole.invariant.items;
      joined = λ j. c.push_line.ensures.joined (c.push_glyphs.ensures.joined (c.loop-hole.invariant.joined j));
    }
