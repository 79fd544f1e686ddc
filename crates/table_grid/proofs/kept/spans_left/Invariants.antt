use Rattle.std.proofs.Common.{◌≡◌, take, map}
use Rattle.table_grid.specs.Grid.{span_left}
use Rattle.table_grid.proofs.kept.spans_left.Given as goal

abbrev pub invariant-loop-s : goal.invariant-loop-s
invariant-loop-s l = l.left.items ≡ map (span_left l.columns) (take l.s-index l.cells)
