use Rattle.std.proofs.Common.{◌≡◌, nat_lt, fold, map, length}
use Rattle.text_lines.specs.Tagged.{line_items, line_columns}
use Rattle.text_wrapping.specs.Blocks.{ends_in_columns}
use Rattle.text_wrapping.proofs.showing.ends_in_columns.Given as goal

abbrev pub invariant-loop-line : goal.invariant-loop-line
invariant-loop-line g l =
    fold (λ ends line. nat_lt 0 (line_columns line)) l.ends (map (line_items g.T.EqualCopy.seen) l.rest)
    ≡ ends_in_columns (map (line_items g.T.EqualCopy.seen) l.lines)

abbrev pub decreases-loop-line : goal.decreases-loop-line
decreases-loop-line g l = length l.rest
