use Rattle.std.proofs.Common.{◌≡◌, map, length}
use Rattle.std.specs.Prelude.{nat_lt}
use Rattle.std.specs.List.{list_any}
use Rattle.text_lines.specs.Tagged.{line_items, line_columns}
use Rattle.text_wrapping.proofs.showing.have_columns.Given as goal

abbrev pub invariant-loop-line : goal.invariant-loop-line
invariant-loop-line g l =
    let seen = g.T.EqualCopy.seen in
    list_any (λ line. nat_lt 0 (line_columns line)) (map (line_items seen) l.rest)
    ≡ list_any (λ line. nat_lt 0 (line_columns line)) (map (line_items seen) l.lines)

abbrev pub decreases-loop-line : goal.decreases-loop-line
decreases-loop-line g l = length l.rest
