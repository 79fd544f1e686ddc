use Rattle.std.specs.Prelude.{◌≡◌, ◌≤◌, [], ◌∷◌, ◌++◌, map, fold, replicate, All}
use Rattle.std.specs.Option.{option_map}
use Rattle.std.proofs.Common.{ap, sym, ◌∙◌, subst}
use Rattle.std.proofs.lemmas.List.{length-map}
use Rattle.std.proofs.lemmas.List.Elements.{All-head}
use Rattle.text_borders.specs.Segments.{with_up, with_down}
use Rattle.text_borders.specs.Borders.{border_of, horizontal, plain, stretched, change_to, with_segments}
use Rattle.text_borders.specs.Across.{row_width, signs, of_cells, is_given, opened, row_of}
use Rattle.text_cells.specs.Cells.{cell_of, hanging_of, block_lines_of}
use Rattle.text_cells.specs.OpenCells.{open_cell_of}
use Rattle.text_lines.specs.Tagged.{line_items}
use Rattle.text_cells.proofs.WholeRow.{given_is}
use Rattle.text_cells.proofs.AloneLemmas.{rows_hold, items_are, opened_by, row_alone, only_one}
use Rattle.text_cells.proofs.alone.lay_alone.Goals as goal

pub returns-clause-row : goal.returns-clause-row
returns-clause-row g c = λ draws.
    let seen = g.T.EqualCopy.seen in
    let tag = seen c.args.tag.now in
    let above = option_map (border_of seen) c.args.above in
    let cell = c.in-Some.field-0 in
    let items = c.args.cells.items in
    let one : items ≡ cell ∷ [] = only_one items c.pop.new.self.items cell c.in-Some.ensures.items
    (sym (length-map items (cell_of seen)) ∙ c.requires.single) in
    let row_items = c.in_ok-row.row.items in
    let row = map (open_cell_of seen) row_items in
    let width = c.in_ok-columns.columns.width in
    let ks = c.in_ok-columns.columns.signs.items in
    let first = block_lines_of seen cell.lines in
    let last = block_lines_of seen c.take_bottom.new.lines in
    let top = option_map (border_of seen) c.in_ok-top.top in
    let bottom = option_map (border_of seen) c.in_ok-bottom.bottom in
    row_alone draws tag tag above (option_map (border_of seen) c.in_ok-above.above) cell.width cell.rows last top bottom
    (opened c.args.collapse (is_given above) tag (cell_of seen cell)) row width ks
    (map (λ t. line_items seen t.line) c.in_ok-texts.texts.lines.items) (border_of seen c.in_ok-below.below)
    (map (hanging_of seen) c.new.result.items)
    (opened_by c.args.collapse (is_given above) c.is_some.result first (block_lines_of seen c.take_top.new.lines) last tag
    cell.width cell.rows top bottom (c.is_some.ensures ∙ given_is (border_of seen) c.args.above)
    c.in_ok-top.ensures.top c.in_ok-top.ensures.rest c.in_ok-bottom.ensures.bottom c.in_ok-bottom.ensures.rest)
    (All-head (λ x. x.rows ≤ 1) (cell_of seen cell) [] (subst (λ cs. All (λ x. x.rows ≤ 1) (map (cell_of seen) cs)) one
    c.requires.ends))
    c.in_ok-row.ensures
    (c.in_ok-columns.ensures.width ∙ ap (λ xs. row_width (map (open_cell_of seen) xs)) c.deref.ensures.value)
    (c.in_ok-columns.ensures.signs ∙ ap (λ xs. signs 0 (map (open_cell_of seen) xs)) c.deref.ensures.value)
    (c.in_ok-above.ensures ∙ ap (λ xs. option_map (λ b. with_segments (fold (change_to (option_map with_down))
    (stretched width b.segments) (ks ++ of_cells (λ x. x.asks_above) 0 (map (open_cell_of seen) xs))) b) above)
    c.deref-2.ensures.value)
    (c.in_ok-below.ensures ∙ ap (λ xs. with_segments (fold (change_to (option_map with_up)) (replicate width horizontal)
    (ks ++ of_cells (λ x. x.asks_below) 0 (map (open_cell_of seen) xs))) (plain horizontal 0 tag))
    c.deref-3.ensures.value)
    (items_are seen c.in_ok-texts.texts.lines.items cell.width tag last c.in_ok-texts.ensures)
    (ap (map (hanging_of seen)) c.new.ensures.items)
    ∙ sym (ap (λ cs. row_of draws tag above (map (opened c.args.collapse (is_given above) tag)
    (map (cell_of seen) cs))) one)

pub returns-clause-lines : goal.returns-clause-lines
returns-clause-lines g c =
    let seen = g.T.EqualCopy.seen in
    rows_hold seen c.in_ok-texts.texts.lines.items c.in-Some.field-0.width (seen c.args.tag.now)
    (block_lines_of seen c.take_bottom.new.lines) c.in_ok-texts.ensures
