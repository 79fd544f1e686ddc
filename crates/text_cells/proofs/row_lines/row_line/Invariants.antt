use Rattle.std.proofs.Common.{◌≡◌, ◌+◌, ◌++◌, map, take, drop, length}
use Rattle.text_lines.specs.Tagged.{line_items, IsJoined}
use Rattle.text_borders.specs.Across.{row_items}
use Rattle.text_cells.specs.OpenCells.{open_cell_of, after}
use Rattle.text_cells.proofs.row_lines.row_line.Given as goal

abbrev pub invariant-loop-cell : goal.invariant-loop-cell
invariant-loop-cell g l =
    let seen = g.T.EqualCopy.seen in
    let start = map (open_cell_of seen) l.initial.cells in
    record {
      left : l.left + l.cell-index ≡ length l.initial.cells;
      items : line_items seen l.line ++ row_items l.sign (seen l.tag) 0 (drop l.cell-index start)
          ≡ row_items l.sign (seen l.tag) 0 start;
      cells : map (open_cell_of seen) l.cells ≡ map (after 1) (take l.cell-index start) ++ drop l.cell-index start;
      joined : IsJoined seen l.line;
    }
