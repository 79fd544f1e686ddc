use Rattle.std.proofs.Common.{◌≡◌, take, map}
use Rattle.table_grid.specs.Grid.{span_in}
use Rattle.table_grid.proofs.edges.span_cells.Given as goal

abbrev pub invariant-loop-p : goal.invariant-loop-p
invariant-loop-p l = l.spanned.items ≡ map (span_in l.edges) (take l.p-index l.placed)
