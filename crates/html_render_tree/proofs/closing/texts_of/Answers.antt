use Rattle.std.proofs.Common.{◌≡◌, arith, length, map}
use Rattle.std.specs.Vec.Iter.{into_iter_items}
use Rattle.block_renderer.specs.Seen.{tags_seen}
use Rattle.text_lines.specs.Tagged.{line_items}
use Rattle.text_borders.specs.Lines.{line_shown, render_line_of}
use Rattle.html_render_tree.proofs.LineLemmas.{all_texts, next_text}
use Rattle.html_render_tree.proofs.closing.texts_of.Goals as goal

pub lines-preserved : goal.lines-preserved
lines-preserved g c =
    let seen = g.D.Annotation.EqualCopy.seen in
    record {
      texts = next_text (line_items (tags_seen seen)) line_shown (render_line_of (tags_seen seen)) c.lines.texts.items
          c.push.new.self.items c.in_ok-into_tagged_line.field-0 (into_iter_items c.lines.line-iterator)
          (into_iter_items c.next.new.self) c.in-Some.line _ c.in_ok-push.ensures.items c.in-Some.ensures.steps.0
          c.in_ok-into_tagged_line.ensures.items c.lines.invariant.texts;
      can_next = tt;
      is_finite = tt;
    }

pub returns : goal.returns
returns g c =
    let seen = g.D.Annotation.EqualCopy.seen in
    let left : length (into_iter_items c.lines.line-iterator) ≡ 0
    = omega (arith, c.lines.line-iterator.rest.ok.0, c.in-None.ensures.steps.0) in
    all_texts (map (line_items (tags_seen seen)) c.lines.texts.items) line_shown (render_line_of (tags_seen seen))
    (into_iter_items c.lines.line-iterator) _ left c.lines.invariant.texts
