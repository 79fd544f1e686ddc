use Rattle.std.proofs.Common.{◌≡◌, ◌++◌, sym, ap, ◌∙◌, map, false, subst}
use Rattle.text_lines.specs.Tagged.{line_items}
use Rattle.text_pieces.specs.Items.{has_text}
use Rattle.text_normal.specs.Riders.{shown_item, settled_lines, settled_rest}
use Rattle.text_normal.specs.MarkedTags.{tag_seen}
use Rattle.text_normal.proofs.ShownLemmas.{settled_step, rest_step, front_free}
use Rattle.text_normal.proofs.shown.settle.Goals as goal

pub loop-line-preserved : goal.loop-line-preserved
loop-line-preserved g c =
    let seen = g.T.EqualCopy.seen in
    let split = c.in-Some.ensures.cases.0 in
    let front = line_items seen c.loop-line.front in
    let done = map (line_items seen) c.loop-line.done.items in
    let line = map (shown_item {S = g.T.EqualCopy.Seen}) (line_items (tag_seen seen) c.in-Some.line.now) in
    let others = map (map (shown_item {S = g.T.EqualCopy.Seen})) (map (line_items (tag_seen seen)) c.in-Some.others.now)
    in
    let joined = c.settle_line.ensures.joined (c.push_shown.ensures.joined c.loop-line.invariant.front)
    c.loop-line.invariant.done in
    record {
      lines = settled_step done _ others _ front line (line_items seen c.push_shown.new.front) _
          c.in_ok-push_shown.ensures.ok c.in_ok-settle_line.ensures.done c.in_ok-settle_line.ensures.front
          c.loop-line.invariant.free
          (sym (ap (λ ls. done ++ settled_lines front (map (map (shown_item {S = g.T.EqualCopy.Seen}))
          (map (line_items (tag_seen seen)) ls))) split) ∙ c.loop-line.invariant.lines);
      rest = rest_step others front line (line_items seen c.push_shown.new.front) _ _
          c.in_ok-push_shown.ensures.ok c.in_ok-settle_line.ensures.front c.loop-line.invariant.free
          (sym (ap (λ ls. settled_rest front (map (map (shown_item {S = g.T.EqualCopy.Seen}))
          (map (line_items (tag_seen seen)) ls))) split) ∙ c.loop-line.invariant.rest);
      free = subst (λ items. has_text items ≡ false) (sym c.in_ok-settle_line.ensures.front)
          (front_free (line_items seen c.push_shown.new.front));
      front = joined.0;
      done = joined.1;
    }
