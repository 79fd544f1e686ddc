use Rattle.std.proofs.Common.{ℕ, ◌≡◌, ◌-◌, ◌≤◌, ◌<◌, length, take, get_or}
use Rattle.table_grid.specs.declared.cell.PlacedCell.{PlacedCell}
use Rattle.table_grid.proofs.RowLemmas.{IsInRow}
use Rattle.table_grid.proofs.walk.place_row.Given as goal

abbrev pub invariant-loop-placed : goal.invariant-loop-placed
invariant-loop-placed l = record {
  state : IsInRow l.cells l.row l.covers l.own.items l.placed.items l.passed l.trailing;
  farther : length l.fn.placed.items ≤ length l.placed.items;
  stays : take (length l.fn.placed.items) l.placed.items ≡ l.fn.placed.items;
  fresh : (k : ℕ) (d : PlacedCell) → length l.fn.placed.items ≤ k → k < length l.placed.items →
      (get_or l.placed.items k d).cell.row ≡ l.row;
}

abbrev pub decreases-loop-placed : goal.decreases-loop-placed
decreases-loop-placed l = length l.cells - length l.placed.items
