use Rattle.std.proofs.Common.{None, Some, ap, if◌then◌else◌, map, ◌∙◌}
use Rattle.text_borders.specs.Borders.{border_of}
use Rattle.text_cells.specs.Cells.{hanging_of, row_lines_of}
use Rattle.block_layout.specs.Laid.{Laid}
use Rattle.block_layout.specs.LaidRows.{add_row_lines, with_border}
use Rattle.block_layout.proofs.block.BlockLayout.put_row.Goals as goal

pub returns-clause-laid : goal.returns-clause-laid
returns-clause-laid g c = λ rows.
    let seen = g.T.EqualCopy.seen in
    let row = c.args.row in
    let put : Laid g.T.EqualCopy.Seen → Laid g.T.EqualCopy.Seen =
    λ b. record b { hanging = map (hanging_of seen) row.hanging.items } in
    ap put (c.in_ok-put_below.ensures.laid
    ∙ ap (with_border (if c.args.draws then Some (border_of seen row.below) else None))
    (c.in_ok-add_row_lines.ensures.laid rows
    ∙ ap (add_row_lines c.args.measure (seen c.args.tag.now) (row_lines_of seen row.lines))
    c.in_ok-put_above.ensures.laid))

pub returns-clause-joined : goal.returns-clause-joined
returns-clause-joined g c = λ joined rows.
    c.put_below.ensures.joined (c.add_row_lines.ensures.joined (c.put_above.ensures.joined joined) rows)

pub returns-in_err-put_above-clause-joined : goal.returns-in_err-put_above-clause-joined
returns-in_err-put_above-clause-joined g c = λ joined rows. c.put_above.ensures.joined joined

pub returns-in_err-add_row_lines-clause-joined : goal.returns-in_err-add_row_lines-clause-joined
returns-in_err-add_row_lines-clause-joined g c = λ joined rows.
    c.add_row_lines.ensures.joined (c.put_above.ensures.joined joined) rows

pub returns-in_err-put_below-clause-joined : goal.returns-in_err-put_below-clause-joined
returns-in_err-put_below-clause-joined g c = λ joined rows.
    c.put_below.ensures.joined (c.add_row_lines.ensures.joined (c.put_above.ensures.joined joined) rows)
