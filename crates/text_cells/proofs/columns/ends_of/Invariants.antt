use Rattle.std.proofs.Common.{◌≡◌, ◌++◌, map, length}
use Rattle.text_cells.specs.OpenCells.{open_cell_of, ends}
use Rattle.text_cells.proofs.columns.ends_of.Given as goal

abbrev pub invariant-loop-cell : goal.invariant-loop-cell
invariant-loop-cell g l =
    let seen = g.T.EqualCopy.seen in
    l.ends.items ++ ends l.at (map (open_cell_of seen) l.rest) ≡ ends 0 (map (open_cell_of seen) l.cells)

abbrev pub decreases-loop-cell : goal.decreases-loop-cell
decreases-loop-cell g l = length l.rest
