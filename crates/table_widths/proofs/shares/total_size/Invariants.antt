use Rattle.std.proofs.Common.{◌≡◌, ◌-◌, ◌*◌, ◌^◌, ◌≤◌, take, sum_by}
use Rattle.table_widths.specs.Shares.{size_of}
use Rattle.table_widths.proofs.shares.total_size.Given as goal

abbrev pub invariant-loop-column : goal.invariant-loop-column
invariant-loop-column l = (l.total ≡ sum_by size_of (take l.column-index l.columns))
    × (l.total ≤ l.column-index * (2 ^ 64 - 1))
