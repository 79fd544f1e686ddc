use Rattle.std.proofs.Common.{◌≡◌, filter, take}
use Rattle.column_fits.proofs.SpanLemmas.{is_spanning}
use Rattle.column_fits.proofs.spanning.spanning_cells.Given as goal

abbrev pub invariant-loop-cell : goal.invariant-loop-cell
invariant-loop-cell l = l.spanning.items ≡ filter is_spanning (take l.cell-index l.cells)
