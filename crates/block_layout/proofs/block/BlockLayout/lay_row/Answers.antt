use Rattle.std.proofs.Common.{ap, ◌∙◌, map}
use Rattle.std.specs.Option.{option_map}
use Rattle.std.proofs.lemmas.Result.{on_ok_weaker}
use Rattle.text_borders.specs.Borders.{border_of}
use Rattle.text_cells.specs.Cells.{cell_of, hanging_of, row_of}
use Rattle.block_layout.specs.Laid.{without_hanging}
use Rattle.block_layout.specs.LaidRows.{last_border}
use Rattle.block_layout.specs.Seen.{laid_of}
use Rattle.block_layout.proofs.RowLemmas.{row_is, same_hanging}
use Rattle.block_layout.proofs.block.BlockLayout.lay_row.Goals as goal

pub returns-clause-laid : goal.returns-clause-laid
returns-clause-laid g c =
    let seen = g.T.EqualCopy.seen in
    let b = laid_of seen c.args.self.now in
    on_ok_weaker c.put_row.result (λ e. e ∙ row_is c.args.measure (seen c.args.tag.now) c.args.draws c.args.collapse
    (map (cell_of seen) c.args.cells.items) b _ (option_map (border_of seen) c.in_ok-above.above)
    (map (hanging_of seen) c.take_hanging-hanging.result.items) (row_of seen c.in_ok-row.row)
    c.in_ok-above.ensures.above
    (c.take_hanging-hanging.ensures.hanging ∙ ap (λ x. x.hanging) c.in_ok-above.ensures.without
    ∙ same_hanging (last_border b.lines) b)
    c.in_ok-row.ensures.row
    (c.take_hanging-hanging.ensures.without ∙ ap (λ x. without_hanging x) c.in_ok-above.ensures.without))
    (c.put_row.ensures.laid c.in_ok-row.ensures.lines)

pub returns-clause-joined : goal.returns-clause-joined
returns-clause-joined g c = λ joined. c.put_row.ensures.joined
    (c.take_hanging-hanging.ensures.joined (c.take_border.ensures.joined joined)) c.in_ok-row.ensures.lines

pub returns-in_err-row-clause-joined : goal.returns-in_err-row-clause-joined
returns-in_err-row-clause-joined g c = λ joined.
    c.take_hanging-hanging.ensures.joined (c.take_border.ensures.joined joined)
