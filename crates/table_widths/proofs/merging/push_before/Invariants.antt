use Rattle.std.proofs.Common.{length, ◌-◌}
use Rattle.table_widths.proofs.MergeLemmas.{IsPushing}
use Rattle.table_widths.proofs.merging.push_before.Given as goal

abbrev pub invariant-others : goal.invariant-others
invariant-others l = IsPushing l.slot l.others l.from l.at l.fn.row.items l.row.items

abbrev pub decreases-others : goal.decreases-others
decreases-others l = length l.others - l.at
