use Rattle.table_grid.proofs.WindowLemmas.{IsWidening}
use Rattle.table_grid.proofs.windows.split_windows.Given as goal

abbrev pub invariant-loop-at : goal.invariant-loop-at
invariant-loop-at l = IsWidening l.step l.at l.fn.windows.items l.windows.items

abbrev pub decreases-loop-at : goal.decreases-loop-at
decreases-loop-at l = l.at
