use Rattle.std.proofs.Common.{◌≡◌, ◌++◌, length}
use Rattle.text_cells.proofs.wide_texts.joined.Given as goal

abbrev pub invariant-loop-next : goal.invariant-loop-next
invariant-loop-next g l = l.all.items ++ l.rest.items ≡ l.fn.first.items ++ l.fn.second.items

abbrev pub decreases-loop-next : goal.decreases-loop-next
decreases-loop-next g l = length l.rest.items
