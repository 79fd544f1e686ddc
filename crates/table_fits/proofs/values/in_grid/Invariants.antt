use Rattle.std.proofs.Common.{◌≡◌, ◌++◌, length}
use Rattle.table_fits.specs.TableFits.{in_grid}
use Rattle.table_fits.proofs.values.in_grid.Given as goal

-- those that are placed, and those that are left
abbrev pub invariant-cells : goal.invariant-cells
invariant-cells l = record { all : l.placed.items ++ in_grid l.rest l.left ≡ in_grid l.cells l.widths }

abbrev pub decreases-cells : goal.decreases-cells
decreases-cells l = length l.rest
