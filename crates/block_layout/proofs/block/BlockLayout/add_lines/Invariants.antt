use Rattle.std.proofs.Common.{◌≡◌, map}
use Rattle.std.specs.Prelude.{All}
use Rattle.std.specs.Vec.Iter.{into_iter_items}
use Rattle.text_lines.specs.Tagged.{line_items, IsJoined}
use Rattle.block_layout.specs.Laid.{add_text_lines}
use Rattle.block_layout.specs.Seen.{laid_of, HasJoinedTexts}
use Rattle.block_layout.proofs.block.BlockLayout.add_lines.Given as goal

abbrev pub invariant-loop-line : goal.invariant-loop-line
invariant-loop-line g l =
    let seen = g.T.EqualCopy.seen in
    record {
      laid : add_text_lines l.measure (seen l.tag) (seen l.fill)
          (map (line_items seen) (into_iter_items l.line-iterator)) (laid_of seen l.self)
          ≡ add_text_lines l.measure (seen l.tag) (seen l.fill) (map (line_items seen) l.fn.lines.items)
          (laid_of seen l.initial.self);
      joined : HasJoinedTexts seen l.initial.self → All (IsJoined seen) l.fn.lines.items
          → HasJoinedTexts seen l.self × All (IsJoined seen) (into_iter_items l.line-iterator);
    }
