use Rattle.std.proofs.Common.{◌≡◌, ◌++◌, map}
use Rattle.std.specs.Vec.Iter.{into_iter_items}
use Rattle.text_borders.specs.Across.{opened}
use Rattle.text_cells.specs.Cells.{cell_of}
use Rattle.text_cells.specs.OpenCells.{open_cell_of}
use Rattle.text_cells.proofs.opening.opened_cells.Given as goal

abbrev pub invariant-loop-cell : goal.invariant-loop-cell
invariant-loop-cell g l =
    let seen = g.T.EqualCopy.seen in
    let change = opened l.collapse l.above (seen l.tag) in
    map (open_cell_of seen) l.row.items ++ map change (map (cell_of seen) (into_iter_items l.cell-iterator))
    ≡ map change (map (cell_of seen) l.fn.cells.items)
