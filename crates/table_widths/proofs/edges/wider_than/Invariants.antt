use Rattle.std.proofs.Common.{◌≡◌, ◌≤◌, count_by, take}
use Rattle.table_widths.specs.Widths.{is_wider}
use Rattle.table_widths.proofs.edges.wider_than.Given as goal

abbrev pub invariant-loop-column : goal.invariant-loop-column
invariant-loop-column l =
    (l.count ≡ count_by (is_wider l.level l.least) (take l.column-index l.columns)) × (l.count ≤ l.column-index)
