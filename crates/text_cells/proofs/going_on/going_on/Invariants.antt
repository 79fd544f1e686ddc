use Rattle.std.proofs.Common.{◌≡◌, ◌++◌, map}
use Rattle.std.specs.Vec.Iter.{into_iter_items}
use Rattle.text_borders.specs.Borders.{border_of}
use Rattle.text_borders.specs.Across.{with_holes, hanging_of as left_of}
use Rattle.text_cells.specs.Cells.{hanging_of}
use Rattle.text_cells.specs.OpenCells.{open_cell_of}
use Rattle.text_cells.proofs.going_on.going_on.Given as goal

abbrev pub invariant-loop-cell : goal.invariant-loop-cell
invariant-loop-cell g l =
    let seen = g.T.EqualCopy.seen in
    let rest = map (open_cell_of seen) (into_iter_items l.cell-iterator) in
    let all = map (open_cell_of seen) l.fn.cells.items in
    record {
      below : with_holes (seen l.tag) 0 l.at rest (border_of seen l.below)
          ≡ with_holes (seen l.tag) 0 0 all (border_of seen l.fn.below);
      hanging : map (hanging_of seen) l.hanging.items ++ left_of 0 l.at rest ≡ left_of 0 0 all;
    }
