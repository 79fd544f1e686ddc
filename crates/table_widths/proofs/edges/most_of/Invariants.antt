use Rattle.std.proofs.Common.{ℕ, ◌<◌, ◌≤◌, get_or}
use Rattle.table_widths.specs.declared.column.ColumnShare.{ColumnShare}
use Rattle.table_widths.proofs.edges.most_of.Given as goal

abbrev pub invariant-loop-column : goal.invariant-loop-column
invariant-loop-column l = (i : ℕ) (d : ColumnShare) → i < l.column-index → (get_or l.columns i d).least ≤ l.most
