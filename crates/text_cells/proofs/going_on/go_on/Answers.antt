use Rattle.std.proofs.Common.{map, ap, ◌∙◌}
use Rattle.std.proofs.lemmas.List.{map_push}
use Rattle.text_lines.specs.Tagged.{line_items}
use Rattle.text_borders.specs.Borders.{border_of}
use Rattle.text_cells.specs.Cells.{hanging_of}
use Rattle.text_cells.specs.OpenCells.{open_cell_of}
use Rattle.text_cells.proofs.GoingLemmas.{not_holed, nothing_left_of, holed, left_further}
use Rattle.text_cells.proofs.going_on.go_on.Goals as goal

pub returns-then-cell-le1-clause-below : goal.returns-then-cell-le1-clause-below
returns-then-cell-le1-clause-below g c =
    let seen = g.T.EqualCopy.seen in
    not_holed (seen c.args.tag.now) c.args.at (open_cell_of seen c.args.cell) (border_of seen c.args.below.now)
    c.if-cell-le1.true

pub returns-then-cell-le1-clause-hanging : goal.returns-then-cell-le1-clause-hanging
returns-then-cell-le1-clause-hanging g c =
    let seen = g.T.EqualCopy.seen in
    nothing_left_of c.args.at (open_cell_of seen c.args.cell) (map (hanging_of seen) c.args.hanging.now.items)
    c.if-cell-le1.true

pub returns-clause-below : goal.returns-clause-below
returns-clause-below g c =
    let seen = g.T.EqualCopy.seen in
    holed (seen c.args.tag.now) c.args.at (open_cell_of seen c.args.cell) (border_of seen c.args.below.now)
    (border_of seen c.punch.new.self) (line_items seen c.in_ok-take_hole.field-0) c.if-cell-le1.false
    c.in_ok-take_hole.ensures.items c.in_ok-punch.ensures

pub returns-clause-hanging : goal.returns-clause-hanging
returns-clause-hanging g c =
    let seen = g.T.EqualCopy.seen in
    left_further c.args.at (open_cell_of seen c.args.cell) (open_cell_of seen c.take_hole.new.self)
    (hanging_of seen (record { place = c.args.at; cell = c.into_next.result }))
    (map (hanging_of seen) c.args.hanging.now.items) (map (hanging_of seen) c.push.new.self.items) c.if-cell-le1.false
    c.in_ok-take_hole.ensures.rest
    (ap (λ x. record { place = c.args.at; cell = x }) c.into_next.ensures)
    (ap (map (hanging_of seen)) c.in_ok-push.ensures.items
    ∙ map_push (hanging_of seen) c.args.hanging.now.items (record { place = c.args.at; cell = c.into_next.result }))
