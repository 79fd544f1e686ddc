use Rattle.std.proofs.Common.{length, ◌-◌}
use Rattle.table_widths.proofs.FormLemmas.{AreFormed}
use Rattle.table_widths.proofs.forming.rows_of.Given as goal

abbrev pub invariant-rows : goal.invariant-rows
invariant-rows l = AreFormed l.cells l.placed l.gaps l.count l.cell l.gap l.rows.items

abbrev pub decreases-rows : goal.decreases-rows
decreases-rows l = l.count - length l.rows.items
