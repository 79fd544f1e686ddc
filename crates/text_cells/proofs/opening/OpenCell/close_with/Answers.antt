use Rattle.text_borders.specs.Borders.{border_of}
use Rattle.text_lines.specs.Tagged.{line_items}
use Rattle.text_cells.specs.OpenCells.{open_cell_of}
use Rattle.text_cells.proofs.OpeningLemmas.{closed_with}
use Rattle.text_cells.proofs.opening.OpenCell.close_with.Goals as goal

pub returns : goal.returns
returns g c =
    let seen = g.T.EqualCopy.seen in
    closed_with (seen c.args.tag.now) (open_cell_of seen c.args.self.now) (border_of seen c.args.bottom)
    (border_of seen c.stretch_to.new.self) (line_items seen c.in_ok-lines_above.field-0) c.in_ok-stretch_to.ensures
    c.in_ok-lines_above.ensures.items
