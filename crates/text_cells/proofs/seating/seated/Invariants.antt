use Rattle.std.proofs.Common.{◌≡◌, ◌++◌, map}
use Rattle.std.specs.Vec.Iter.{into_iter_items}
use Rattle.text_borders.specs.Across.{seated}
use Rattle.text_cells.specs.Cells.{cell_of, hanging_of}
use Rattle.text_cells.proofs.seating.seated.Given as goal

abbrev pub invariant-loop-cell : goal.invariant-loop-cell
invariant-loop-cell g l =
    let seen = g.T.EqualCopy.seen in
    map (cell_of seen) l.row.items ++ seated l.at (map (cell_of seen) (into_iter_items l.cell-iterator))
    (map (hanging_of seen) l.waiting.items)
    ≡ seated 0 (map (cell_of seen) l.fn.cells.items) (map (hanging_of seen) l.fn.hanging.items)
