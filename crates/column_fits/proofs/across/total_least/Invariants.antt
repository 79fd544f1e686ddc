use Rattle.std.proofs.Common.{◌≡◌, ◌+◌, ◌-◌, ◌*◌, ◌^◌, ◌≤◌, take, sum_by, length}
use Rattle.table_widths.specs.Shares.{least_of}
use Rattle.column_fits.proofs.across.total_least.Given as goal

abbrev pub invariant-loop-column : goal.invariant-loop-column
invariant-loop-column l =
    (l.total ≡ sum_by least_of (take l.column-index l.columns) + (length l.columns - 1))
    × (l.total ≤ l.column-index * (2 ^ 64 - 1) + (length l.columns - 1))
