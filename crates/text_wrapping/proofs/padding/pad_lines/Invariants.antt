use Rattle.std.proofs.Common.{◌≡◌, ◌++◌, map, take, drop}
use Rattle.std.specs.Prelude.{Some, All}
use Rattle.text_lines.specs.Tagged.{line_items, IsJoined}
use Rattle.text_wrapping.specs.Blocks.{padded}
use Rattle.text_wrapping.proofs.padding.pad_lines.Given as goal

abbrev pub invariant-loop-line : goal.invariant-loop-line
invariant-loop-line g l =
    let seen = g.T.EqualCopy.seen in
    let start = map (line_items seen) l.initial.line-items in
    record {
      views : map (line_items seen) l.line-items ≡ map (padded l.width (Some (seen l.tag)))
          (take l.line-index start) ++ drop l.line-index start;
      joined : All (IsJoined seen) l.initial.line-items → All (IsJoined seen) l.line-items;
    }
