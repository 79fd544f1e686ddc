use Rattle.std.proofs.Common.{◌≡◌, ◌≤◌, ◌*◌, ◌^◌, sum_by, take}
use Rattle.table_widths.specs.Widths.{slack_of}
use Rattle.table_widths.proofs.levels.slack_sum.Given as goal

abbrev pub invariant-loop-column : goal.invariant-loop-column
invariant-loop-column l = (l.total ≡ sum_by slack_of (take l.column-index l.columns))
    × (l.total ≤ l.column-index * 2 ^ 64)
