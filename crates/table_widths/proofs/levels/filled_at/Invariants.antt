use Rattle.std.proofs.Common.{◌≡◌, ◌≤◌, ◌*◌, ◌^◌, sum_by, take}
use Rattle.table_widths.specs.Widths.{part_at}
use Rattle.table_widths.proofs.levels.filled_at.Given as goal

abbrev pub invariant-loop-column : goal.invariant-loop-column
invariant-loop-column l =
    (l.total ≡ sum_by (part_at l.level) (take l.column-index l.columns)) × (l.total ≤ l.column-index * 2 ^ 64)
