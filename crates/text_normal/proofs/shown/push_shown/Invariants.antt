use Rattle.std.proofs.Common.{◌≡◌, ◌++◌, length, take, map}
use Rattle.text_lines.specs.Tagged.{line_items, elements_items, line_elements, IsJoined}
use Rattle.text_normal.specs.Riders.{shown_item}
use Rattle.text_normal.specs.MarkedTags.{tag_seen}
use Rattle.text_normal.proofs.shown.push_shown.Given as goal

abbrev pub invariant-loop-element : goal.invariant-loop-element
invariant-loop-element g l =
    record {
      items : line_items g.T.EqualCopy.seen l.front ≡ line_items g.T.EqualCopy.seen l.fn.front
          ++ map shown_item
          (elements_items (tag_seen g.T.EqualCopy.seen) (take (length l.yielded) (line_elements l.line)));
      joined : IsJoined g.T.EqualCopy.seen l.fn.front → IsJoined g.T.EqualCopy.seen l.front;
    }
