use Rattle.std.proofs.Common.{◌≡◌, map, length}
use Rattle.std.specs.Prelude.{fold}
use Rattle.std.specs.Option.{option_map}
use Rattle.text_borders.specs.Segments.{with_up}
use Rattle.text_borders.specs.Borders.{border_of, change_to, with_segments}
use Rattle.text_borders.specs.Across.{of_cells}
use Rattle.text_cells.specs.OpenCells.{open_cell_of}
use Rattle.text_cells.proofs.joining.merge_bottoms.Given as goal

abbrev pub invariant-loop-cell : goal.invariant-loop-cell
invariant-loop-cell g l =
    let seen = g.T.EqualCopy.seen in
    let now = border_of seen l.border in
    let first = border_of seen l.fn.border in
    with_segments (fold (change_to (option_map with_up)) now.segments
    (of_cells (λ c. c.asks_below) l.at (map (open_cell_of seen) l.rest))) now
    ≡ with_segments (fold (change_to (option_map with_up)) first.segments
    (of_cells (λ c. c.asks_below) 0 (map (open_cell_of seen) l.cells))) first

abbrev pub decreases-loop-cell : goal.decreases-loop-cell
decreases-loop-cell g l = length l.rest
