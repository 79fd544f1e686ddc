use Rattle.std.proofs.Common.{◌≡◌, ◌+◌, ◌-◌, ◌<◌, ◌++◌, map, length, drop, sym, ap, refl, ◌∙◌, arith}
use Rattle.std.proofs.lemmas.List.{length-drop, length-map}
use Rattle.text_lines.specs.Tagged.{line_items}
use Rattle.text_borders.specs.Across.{cell_items}
use Rattle.text_cells.specs.OpenCells.{open_cell_of, after}
use Rattle.text_cells.proofs.RowLemmas.{cells_all, changed_more, items_all, more_text, still_there}
use Rattle.text_cells.proofs.row_lines.row_line.Goals as goal

pub loop-cell-preserved : goal.loop-cell-preserved
loop-cell-preserved g c =
    let seen = g.T.EqualCopy.seen in
    let tag = seen c.args.tag.now in
    let first = c.args.cells.now in
    let start = map (open_cell_of seen) first in
    let i = c.loop-cell.cell-index in
    let inside : i < length first =
    omega (arith, c.loop-cell-test.true, c.loop-cell.auto.cells, c.loop-cell.auto.cell-index-end) in
    let same : length c.loop-cell.cells ≡ length first = c.loop-cell.auto.cells in
    let left : c.loop-cell.left - 1 ≡ length (drop (i + 1) start) =
    omega (
      arith,
      c.loop-cell.invariant.left,
      length-drop (i + 1) start,
      length-map first (open_cell_of seen),
      inside,
    ) in
    record {
      left = omega (arith, c.loop-cell.invariant.left, inside);
      items = more_text c.args.sign tag start i (c.loop-cell.left - 1)
          (open_cell_of seen c.cell-item.result) (cell_items tag 0 (open_cell_of seen c.cell-item.result))
          (line_items seen c.loop-cell.line) (line_items seen c.move_line.new.line)
          (line_items seen c.push_sign.new.line)
          (still_there (open_cell_of seen) (after 1) first c.loop-cell.cells i c.cell-item.result inside same
          c.loop-cell.invariant.cells c.cell-item.is) left
          refl
          (c.in_ok-move_line.ensures.items ∙ ap (λ x. line_items seen c.loop-cell.line
          ++ cell_items tag 0 (open_cell_of seen x)) (sym c.cell-item.is))
          c.in_ok-push_sign.ensures.items ∙ c.loop-cell.invariant.items;
      cells = changed_more (open_cell_of seen) (after 1) first c.loop-cell.cells i c.cell-item.result
          c.move_line.new.self inside same c.loop-cell.invariant.cells c.cell-item.is
          (c.move_line.ensures.rest ∙ ap (λ x. after 1 (open_cell_of seen x)) (sym c.cell-item.is));
      joined = c.push_sign.ensures.joined (c.move_line.ensures.joined c.loop-cell.invariant.joined);
    }

pub returns-clause-items : goal.returns-clause-items
returns-clause-items g c =
    let seen = g.T.EqualCopy.seen in
    let start = map (open_cell_of seen) c.args.cells.now in
    items_all c.args.sign (seen c.args.tag.now) start c.loop-cell.cell-index (line_items seen c.loop-cell.line)
    (omega (arith, c.loop-cell-test.false, c.loop-cell.auto.cells, length-map c.args.cells.now (open_cell_of seen)))
    c.loop-cell.invariant.items

pub returns-clause-rest : goal.returns-clause-rest
returns-clause-rest g c =
    let seen = g.T.EqualCopy.seen in
    let start = map (open_cell_of seen) c.args.cells.now in
    cells_all start (map (open_cell_of seen) c.loop-cell.cells) c.loop-cell.cell-index
    (omega (arith, c.loop-cell-test.false, c.loop-cell.auto.cells, length-map c.args.cells.now (open_cell_of seen)))
    c.loop-cell.invariant.cells
