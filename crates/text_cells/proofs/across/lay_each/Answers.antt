use Rattle.std.proofs.Common.{◌≡◌, ◌++◌, map, replicate, length, ap, ◌∙◌, arith}
use Rattle.std.specs.Prelude.{fold}
use Rattle.std.specs.Option.{option_map}
use Rattle.text_borders.specs.Segments.{with_up, with_down}
use Rattle.text_borders.specs.Borders.{border_of, horizontal, plain, stretched, change_to, with_segments}
use Rattle.text_borders.specs.Across.{hanging_of as left_of, of_cells, row_height, row_lines, row_width, signs}
use Rattle.text_borders.specs.Across.{with_holes}
use Rattle.text_lines.specs.Tagged.{line_items}
use Rattle.text_cells.specs.Cells.{cell_of, hanging_of}
use Rattle.text_cells.specs.OpenCells.{open_cell_of, after}
use Rattle.text_cells.proofs.WholeRow.{above_is, below_is, cells_are, given_is, hanging_are, holes_are, lines_are}
use Rattle.text_cells.proofs.WholeRow.{row_is, written}
use Rattle.text_cells.proofs.across.lay_each.Goals as goal

pub returns-clause-row : goal.returns-clause-row
returns-clause-row g c =
    let seen = g.T.EqualCopy.seen in
    let tag = seen c.args.tag.now in
    let above = option_map (border_of seen) c.args.above in
    let cells = map (cell_of seen) c.args.seated.items in
    let items = c.in_ok-row.row.items in
    let row = map (open_cell_of seen) items in
    let left = map (open_cell_of seen) c.row_lines.new.cells in
    let width = c.in_ok-columns.columns.width in
    let ks = c.in_ok-columns.columns.signs.items in
    let width_is = c.in_ok-columns.ensures.width
    ∙ ap (λ xs. row_width (map (open_cell_of seen) xs)) c.deref.ensures.value in
    let signs_are = c.in_ok-columns.ensures.signs
    ∙ ap (λ xs. signs 0 (map (open_cell_of seen) xs)) c.deref.ensures.value in
    let height_is = c.row_height-height.ensures
    ∙ ap (λ xs. row_height (map (open_cell_of seen) xs)) c.deref-4.ensures.value in
    let taken = c.in_ok-lines.ensures.rest
    ∙ ap (λ xs. map (after c.row_height-height.result) (map (open_cell_of seen) xs)) c.deref_mut.ensures.value in
    let long : length c.row_lines.new.cells ≡ c.in_ok-row.row.len =
    omega (arith, c.row_lines.auto.cells, ap length c.deref_mut.ensures.value, c.in_ok-row.row.ok.0) in
    let lent = written c.row_lines.new.cells items c.in_ok-row.row.len long in
    row_is c.args.draws c.args.collapse tag above cells row (option_map (border_of seen) c.in_ok-joined.joined)
    (map (line_items seen) c.in_ok-lines.lines.items) (border_of seen c.going_on.new.below)
    (map (hanging_of seen) c.in_ok-hanging.hanging.items)
    (cells_are c.args.collapse c.is_some.result tag above cells row
    (c.is_some.ensures ∙ given_is (border_of seen) c.args.above) c.in_ok-row.ensures)
    (above_is above (option_map (border_of seen) c.in_ok-joined.joined) row width ks width_is signs_are
    (c.in_ok-joined.ensures ∙ ap (λ xs. option_map (λ b. with_segments (fold (change_to (option_map with_down))
    (stretched width b.segments) (ks ++ of_cells (λ x. x.asks_above) 0 (map (open_cell_of seen) xs))) b) above)
    c.deref-2.ensures.value))
    (lines_are c.args.draws tag row c.sign_of.result c.row_height-height.result
    (map (line_items seen) c.in_ok-lines.lines.items) c.sign_of.ensures height_is
    (c.in_ok-lines.ensures.lines ∙ ap (λ xs. row_lines c.sign_of.result tag (map (open_cell_of seen) xs) 0
    c.row_height-height.result) c.deref_mut.ensures.value))
    (holes_are tag row left c.row_height-height.result (border_of seen c.in_ok-below.below)
    (border_of seen c.going_on.new.below) height_is taken
    (below_is tag row width ks (border_of seen c.in_ok-below.below) width_is signs_are
    (c.in_ok-below.ensures ∙ ap (λ xs. with_segments (fold (change_to (option_map with_up)) (replicate width horizontal)
    (ks ++ of_cells (λ x. x.asks_below) 0 (map (open_cell_of seen) xs))) (plain horizontal 0 tag))
    c.deref-3.ensures.value))
    (c.in_ok-hanging.ensures.below
    ∙ ap (λ xs. with_holes tag 0 0 (map (open_cell_of seen) xs) (border_of seen c.in_ok-below.below)) lent))
    (hanging_are row left c.row_height-height.result (map (hanging_of seen) c.in_ok-hanging.hanging.items) height_is
    taken (c.in_ok-hanging.ensures.hanging ∙ ap (λ xs. left_of 0 0 (map (open_cell_of seen) xs)) lent))
