use Rattle.std.proofs.Common.{◌≡◌, ◌++◌, replicate}
use Rattle.text_lines.specs.Tagged.{line_items, character, IsJoined}
use Rattle.text_lines.proofs.tagged_line.TaggedLine.push_spaces.Given as goal

abbrev pub invariant-loop-left : goal.invariant-loop-left
invariant-loop-left g l =
    let space = character 0x20 (g.T.EqualCopy.seen l.tag) in
    record {
      items : line_items g.T.EqualCopy.seen l.self ++ replicate l.left space
          ≡ line_items g.T.EqualCopy.seen l.initial.self ++ replicate l.count space;
      joined : IsJoined g.T.EqualCopy.seen l.initial.self → IsJoined g.T.EqualCopy.seen l.self;
    }

abbrev pub decreases-loop-left : goal.decreases-loop-left
decreases-loop-left g l = l.left
