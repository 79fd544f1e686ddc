use Rattle.std.proofs.Common.{◌≡◌, take, map}
use Rattle.std.specs.List.{range_with_len}
use Rattle.table_grid.specs.Grid.{size_part, least_part, column_at}
use Rattle.table_grid.proofs.columns.columns_of.Given as goal

abbrev pub invariant-loop-s : goal.invariant-loop-s
invariant-loop-s l = record {
  sizes : l.size_parts.items ≡ map size_part (take l.s-index l.cells);
  leasts : l.least_parts.items ≡ map least_part (take l.s-index l.cells);
}

abbrev pub invariant-loop-at : goal.invariant-loop-at
invariant-loop-at l = l.columns.items ≡ map (column_at l.cells) (range_with_len 0 l.at)
