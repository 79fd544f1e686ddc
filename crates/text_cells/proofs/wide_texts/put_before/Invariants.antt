use Rattle.std.proofs.Common.{◌≡◌, ◌++◌, length}
use Rattle.text_cells.proofs.wide_texts.put_before.Given as goal

abbrev pub invariant-loop-last : goal.invariant-loop-last
invariant-loop-last g l = l.rest.items ++ l.all.items ≡ l.fn.first.items ++ l.fn.second.items

abbrev pub decreases-loop-last : goal.decreases-loop-last
decreases-loop-last g l = length l.rest.items
