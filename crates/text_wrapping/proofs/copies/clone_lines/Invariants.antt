use Rattle.std.proofs.Common.{◌≡◌, ◌++◌, map, length}
use Rattle.std.specs.Prelude.{All}
use Rattle.text_lines.specs.Tagged.{line_items, IsJoined}
use Rattle.text_wrapping.proofs.copies.clone_lines.Given as goal

abbrev pub invariant-loop-line : goal.invariant-loop-line
invariant-loop-line g l =
    let seen = g.T.EqualCopy.seen in
    record {
      items : map (line_items seen) l.all.items ++ map (line_items seen) l.rest ≡ map (line_items seen) l.lines;
      joined : All (IsJoined seen) l.lines → All (IsJoined seen) l.all.items × All (IsJoined seen) l.rest;
    }

abbrev pub decreases-loop-line : goal.decreases-loop-line
decreases-loop-line g l = length l.rest
