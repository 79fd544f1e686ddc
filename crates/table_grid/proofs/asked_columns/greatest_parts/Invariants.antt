use Rattle.std.proofs.Common.{ℕ, ◌≡◌, ◌≤◌, ◌<◌, ◌+◌, length, get_or}
use Rattle.table_grid.specs.Windows.{IsSpread}
use Rattle.table_grid.proofs.asked_columns.greatest_parts.Given as goal

abbrev pub invariant-loop-column : goal.invariant-loop-column
invariant-loop-column l = record {
  zeros : (i : ℕ) → get_or l.windows.items i 0 ≡ 0;
  same : length l.windows.items ≡ l._column;
}

abbrev pub invariant-loop-width : goal.invariant-loop-width
invariant-loop-width l = record {
  spread : IsSpread l.parts l.width l.width 0 l.windows.items;
  same : length l.windows.items ≡ l.count;
  some : 0 < l.width;
  within : l.width ≤ l.count + 1;
}

abbrev pub decreases-loop-width : goal.decreases-loop-width
decreases-loop-width l = l.width
