use Rattle.std.proofs.Common.{◌≡◌, ◌++◌, map}
use Rattle.std.specs.Vec.Iter.{into_iter_items}
use Rattle.block_renderer.specs.Seen.{tags_seen}
use Rattle.text_lines.specs.Tagged.{line_items}
use Rattle.text_borders.specs.Lines.{line_shown, render_line_of}
use Rattle.html_render_tree.proofs.closing.texts_of.Given as goal

abbrev pub invariant-lines : goal.invariant-lines
invariant-lines g l =
    let seen = g.D.Annotation.EqualCopy.seen in
    record {
      texts : map (line_items (tags_seen seen)) l.texts.items
          ++ map line_shown (map (render_line_of (tags_seen seen)) (into_iter_items l.line-iterator))
          ≡ map line_shown (map (render_line_of (tags_seen seen)) l.fn.lines.items);
      can_next : (goal.iterator-lines g).can_next l.line-iterator;
      is_finite : (goal.iterator-lines g).is_finite l.line-iterator;
    }
