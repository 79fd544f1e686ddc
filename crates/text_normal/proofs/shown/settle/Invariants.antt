use Rattle.std.proofs.Common.{◌≡◌, ◌++◌, [], length, map, false}
use Rattle.std.specs.Prelude.{All}
use Rattle.text_lines.specs.Tagged.{line_items, IsJoined}
use Rattle.text_pieces.specs.Items.{has_text}
use Rattle.text_normal.specs.Riders.{shown_item, settled_lines, settled_rest}
use Rattle.text_normal.specs.MarkedTags.{tag_seen}
use Rattle.text_normal.proofs.shown.settle.Given as goal

abbrev pub invariant-loop-line : goal.invariant-loop-line
invariant-loop-line g l =
    record {
      lines : map (line_items g.T.EqualCopy.seen) l.done.items ++ settled_lines (line_items g.T.EqualCopy.seen l.front)
          (map (map shown_item) (map (line_items (tag_seen g.T.EqualCopy.seen)) l.rest))
          ≡ settled_lines [] (map (map shown_item) (map (line_items (tag_seen g.T.EqualCopy.seen)) l.lines));
      rest : settled_rest (line_items g.T.EqualCopy.seen l.front)
          (map (map shown_item) (map (line_items (tag_seen g.T.EqualCopy.seen)) l.rest))
          ≡ settled_rest [] (map (map shown_item) (map (line_items (tag_seen g.T.EqualCopy.seen)) l.lines));
      free : has_text (line_items g.T.EqualCopy.seen l.front) ≡ false;
      front : IsJoined g.T.EqualCopy.seen l.front;
      done : All (IsJoined g.T.EqualCopy.seen) l.done.items;
    }

abbrev pub decreases-loop-line : goal.decreases-loop-line
decreases-loop-line g l = length l.rest
