use Rattle.std.proofs.Common.{◌≡◌, ◌++◌, ◌-◌, length, take, drop}
use Rattle.text_lines.specs.Tagged.{line_items, elements_items, line_elements, IsJoined}
use Rattle.text_preserved.proofs.breaking.push_dropped.Given as goal

abbrev pub invariant-loop-element : goal.invariant-loop-element
invariant-loop-element g l =
    record {
      items : line_items g.T.EqualCopy.seen l.line ≡ line_items g.T.EqualCopy.seen l.fn.line
          ++ drop l.fn.dropped (elements_items g.T.EqualCopy.seen (take (length l.yielded) (line_elements l.items)));
      left : l.left ≡ l.fn.dropped
          - length (elements_items g.T.EqualCopy.seen (take (length l.yielded) (line_elements l.items)));
      joined : IsJoined g.T.EqualCopy.seen l.fn.line → IsJoined g.T.EqualCopy.seen l.line;
    }
