use Rattle.std.proofs.Common.{◌≡◌, filter, map, take}
use Rattle.table_widths.specs.Slots.{covered, goes_on}
use Rattle.table_widths.proofs.merging.covered_after.Given as goal

abbrev pub invariant-loop-slot : goal.invariant-loop-slot
invariant-loop-slot l = l.covered.items ≡ map covered (filter goes_on (take l.slot-index l.slots))
