use Rattle.std.proofs.Common.{◌≡◌, ◌++◌, map}
use Rattle.std.specs.Vec.Iter.{into_iter_items}
use Rattle.text_borders.specs.Across.{seated_after}
use Rattle.text_cells.specs.Cells.{cell_of, hanging_of}
use Rattle.text_cells.proofs.seating.push_after.Given as goal

abbrev pub invariant-loop-last : goal.invariant-loop-last
invariant-loop-last g l =
    let seen = g.T.EqualCopy.seen in
    map (cell_of seen) l.row.items ++ seated_after l.end (map (hanging_of seen) (into_iter_items l.last-iterator))
    ≡ map (cell_of seen) l.fn.row.items ++ seated_after l.fn.at (map (hanging_of seen) l.fn.waiting.items)
