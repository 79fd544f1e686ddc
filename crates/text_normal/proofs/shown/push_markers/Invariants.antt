use Rattle.std.proofs.Common.{◌≡◌, ◌++◌, length, map, chars}
use denote.Text.{Utf8}
use denote.Shadow.{shadow}
use Rattle.text_lines.specs.Tagged.{line_items, marker, IsJoined}
use Rattle.text_normal.proofs.shown.push_markers.Given as goal

abbrev pub invariant-loop-after : goal.invariant-loop-after
invariant-loop-after g l =
    record {
      text : shadow (Utf8 l.rest);
      items : line_items g.T.EqualCopy.seen l.front ++ map (λ c. marker (chars l.name)) (chars l.rest)
          ≡ line_items g.T.EqualCopy.seen l.fn.front ++ map (λ c. marker (chars l.name)) (chars l.text);
      joined : IsJoined g.T.EqualCopy.seen l.fn.front → IsJoined g.T.EqualCopy.seen l.front;
    }

abbrev pub decreases-loop-after : goal.decreases-loop-after
decreases-loop-after g l = length l.rest
