use Rattle.std.proofs.Common.{◌≡◌, ◌++◌, ◌-◌, drop, length}
use Rattle.table_widths.specs.Slots.{merged}
use Rattle.table_widths.proofs.MergeLemmas.{IsMergingTo}
use Rattle.table_widths.proofs.merging.merged.Given as goal

abbrev pub invariant-loop-slot : goal.invariant-loop-slot
invariant-loop-slot l = IsMergingTo l.slot-items l.others l.slot-index l.from l.row.items

abbrev pub invariant-rest : goal.invariant-rest
invariant-rest l = l.row.items ++ drop l.from l.others ≡ merged l.slots.items l.others

abbrev pub decreases-rest : goal.decreases-rest
decreases-rest l = length l.others - l.from
