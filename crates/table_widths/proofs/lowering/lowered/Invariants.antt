use Rattle.std.proofs.Common.{◌≡◌, ℕ, ◌-◌, ◌<◌, take, get_or, length}
use Rattle.table_widths.specs.Widths.{wider, equal, width_at, column_at}
use Rattle.table_widths.proofs.lowering.lowered.Given as goal

abbrev pub invariant-loop-column : goal.invariant-loop-column
invariant-loop-column l =
    (length l.widths.items ≡ l.column-index) ×
    (l.left ≡ l.less - wider l.level l.edge l.columns - equal l.level l.edge (take l.column-index l.columns)) ×
    ((i : ℕ) → i < l.column-index → get_or l.widths.items i 0
    ≡ width_at l.level l.less l.columns (take i l.columns) (column_at l.columns i))
