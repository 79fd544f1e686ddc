use Rattle.std.proofs.Common.{◌≡◌, ◌++◌, replicate}
use Rattle.text_borders.proofs.border.push_segments.Given as goal

abbrev pub invariant-loop-more : goal.invariant-loop-more
invariant-loop-more l = l.segments.items ≡ l.fn.segments.items ++ replicate l._more l.segment
