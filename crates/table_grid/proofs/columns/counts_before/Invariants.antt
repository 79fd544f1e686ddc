use Rattle.std.proofs.Common.{ℕ, ◌≡◌, ◌≤◌, ◌<◌, take, count_by, length, get_or}
use Rattle.table_grid.specs.Grid.{has_size}
use Rattle.table_grid.proofs.columns.counts_before.Given as goal

abbrev pub invariant-loop-column : goal.invariant-loop-column
invariant-loop-column l = record {
  same : length l.counts.items ≡ l.column-index;
  count : l.count ≡ count_by has_size (take l.column-index l.columns);
  few : l.count ≤ l.column-index;
  each : (c : ℕ) → c < l.column-index → get_or l.counts.items c 0 ≡ count_by has_size (take c l.columns);
}
