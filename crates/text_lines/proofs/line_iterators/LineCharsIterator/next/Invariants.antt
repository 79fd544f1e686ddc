use Rattle.std.proofs.Common.{◌≡◌, length}
use Rattle.text_lines.specs.Iterating.{chars_left}
use Rattle.text_lines.proofs.line_iterators.LineCharsIterator.next.Given as goal

abbrev pub invariant-loop-first : goal.invariant-loop-first
invariant-loop-first g l = chars_left l.self ≡ chars_left l.fn.self

abbrev pub decreases-loop-first : goal.decreases-loop-first
decreases-loop-first g l = length l.self.elements.now
