use Rattle.std.proofs.Common.{◌≡◌, ◌++◌, ◌-◌, length, drop, chars, string_bytes}
use denote.Text.{Utf8}
use denote.Shadow.{shadow}
use Rattle.text_lines.specs.Tagged.{line_items, tagged, IsJoined}
use Rattle.text_preserved.proofs.breaking.push_string_dropped.Given as goal

abbrev pub invariant-loop-after : goal.invariant-loop-after
invariant-loop-after g l =
    record {
      text : shadow (Utf8 l.rest);
      items : line_items g.T.EqualCopy.seen l.line
          ++ drop l.left (tagged (chars l.rest) (g.T.EqualCopy.seen l.string.tag))
          ≡ line_items g.T.EqualCopy.seen l.fn.line
          ++ drop l.fn.dropped (tagged (chars (string_bytes l.string.s)) (g.T.EqualCopy.seen l.string.tag));
      left : l.left - length (chars l.rest) ≡ l.fn.dropped - length (chars (string_bytes l.string.s));
      joined : IsJoined g.T.EqualCopy.seen l.fn.line → IsJoined g.T.EqualCopy.seen l.line;
    }

abbrev pub decreases-loop-after : goal.decreases-loop-after
decreases-loop-after g l = length l.rest
