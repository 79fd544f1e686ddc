use Rattle.std.proofs.Common.{◌≡◌, ◌++◌, take, map}
use Rattle.table_grid.specs.Places.{left_of, right_of}
use Rattle.table_grid.proofs.edges.edges_of.Given as goal

abbrev pub invariant-loop-p : goal.invariant-loop-p
invariant-loop-p l = l.edges.items ≡ map left_of (take l.p-index l.placed)

abbrev pub invariant-loop-p-2 : goal.invariant-loop-p-2
invariant-loop-p-2 l = l.edges.items ≡ map left_of l.placed ++ map right_of (take l.p-index l.placed)
