use Rattle.std.proofs.Common.{◌≡◌, map}
use Rattle.text_borders.specs.Across.{row_lines}
use Rattle.std.specs.Prelude.{All}
use Rattle.text_lines.specs.Tagged.{line_items, IsJoined}
use Rattle.text_cells.specs.OpenCells.{open_cell_of, after}
use Rattle.text_cells.proofs.row_lines.row_lines.Given as goal

abbrev pub invariant-loop-line : goal.invariant-loop-line
invariant-loop-line g l =
    let seen = g.T.EqualCopy.seen in
    let start = map (open_cell_of seen) l.fn.cells in
    record {
      lines : map (line_items seen) l.lines.items ≡ row_lines l.sign (seen l.tag) start 0 l._line;
      rest : map (open_cell_of seen) l.cells ≡ map (after l._line) start;
      joined : All (IsJoined seen) l.lines.items;
    }
