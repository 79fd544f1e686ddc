use Rattle.std.proofs.Common.{◌≡◌, map, length}
use Rattle.std.specs.Prelude.{fold, max}
use Rattle.text_borders.specs.Across.{row_height, cell_height}
use Rattle.text_cells.specs.OpenCells.{open_cell_of}
use Rattle.text_cells.proofs.row_lines.row_height.Given as goal

abbrev pub invariant-loop-cell : goal.invariant-loop-cell
invariant-loop-cell g l =
    let seen = g.T.EqualCopy.seen in
    fold (λ n c. max n (cell_height c)) l.height (map (open_cell_of seen) l.rest)
    ≡ row_height (map (open_cell_of seen) l.cells)

abbrev pub decreases-loop-cell : goal.decreases-loop-cell
decreases-loop-cell g l = length l.rest
