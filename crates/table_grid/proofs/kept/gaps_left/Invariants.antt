use Rattle.std.proofs.Common.{◌≡◌, take, map}
use Rattle.table_grid.specs.Grid.{gap_left}
use Rattle.table_grid.proofs.kept.gaps_left.Given as goal

abbrev pub invariant-loop-g : goal.invariant-loop-g
invariant-loop-g l = l.left.items ≡ map (gap_left l.edges l.columns) (take l.g-index l.gaps)
