use Rattle.std.proofs.Common.{◌≡◌, ◌+◌, length}
use Rattle.text_cells.specs.Cells.{content_count}
use Rattle.block_layout.proofs.lines.count.Given as goal

abbrev pub invariant-loop-line : goal.invariant-loop-line
invariant-loop-line g l = l.count + content_count l.rest ≡ content_count l.lines

abbrev pub decreases-loop-line : goal.decreases-loop-line
decreases-loop-line g l = length l.rest
