use Rattle.std.proofs.Common.{length, ◌-◌}
use Rattle.table_widths.specs.RowParts.{HasRowsFrom}
use Rattle.table_widths.specs.Slots.{gap_slot, is_gap_of}
use Rattle.table_widths.proofs.RowLemmas.{AreTaken}
use Rattle.table_widths.proofs.forming.gaps_of_row.Given as goal

abbrev pub invariant-earlier : goal.invariant-earlier
invariant-earlier l = HasRowsFrom is_gap_of l.gaps l.row l.at

abbrev pub decreases-earlier : goal.decreases-earlier
decreases-earlier l = length l.gaps - l.at

abbrev pub invariant-gaps : goal.invariant-gaps
invariant-gaps l = AreTaken (λ g. g.row) is_gap_of gap_slot l.gaps l.row l.at l.slots.items

abbrev pub decreases-gaps : goal.decreases-gaps
decreases-gaps l = length l.gaps - l.at
