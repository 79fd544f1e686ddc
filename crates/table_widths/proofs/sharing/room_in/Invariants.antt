use Rattle.std.proofs.Common.{◌≡◌, ◌+◌, sum_by, take}
use Rattle.table_widths.specs.Widths.{least_of, separators}
use Rattle.table_widths.proofs.sharing.room_in.Given as goal

abbrev pub invariant-loop-column : goal.invariant-loop-column
invariant-loop-column l = l.room + sum_by least_of (take l.column-index l.columns) + separators l.columns ≡ l.width
