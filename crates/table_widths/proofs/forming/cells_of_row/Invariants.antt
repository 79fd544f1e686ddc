use Rattle.std.proofs.Common.{length, ◌-◌}
use Rattle.std.specs.List.{zip}
use Rattle.table_widths.specs.RowParts.{HasRowsFrom}
use Rattle.table_widths.specs.Slots.{cell_slot, is_cell_of}
use Rattle.table_widths.proofs.RowLemmas.{AreTaken}
use Rattle.table_widths.proofs.forming.cells_of_row.Given as goal

abbrev pub invariant-earlier : goal.invariant-earlier
invariant-earlier l = HasRowsFrom is_cell_of (zip l.cells l.placed) l.row l.at

abbrev pub decreases-earlier : goal.decreases-earlier
decreases-earlier l = length l.cells - l.at

abbrev pub invariant-cells : goal.invariant-cells
invariant-cells l = AreTaken (λ c. c.0.row) is_cell_of cell_slot (zip l.cells l.placed) l.row l.at l.slots.items

abbrev pub decreases-cells : goal.decreases-cells
decreases-cells l = length l.cells - l.at
