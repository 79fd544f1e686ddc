use Rattle.std.proofs.Common.{map, sym, ap, ◌∙◌}
use Rattle.std.specs.Prelude.{fold, max}
use Rattle.text_borders.specs.Across.{cell_height}
use Rattle.text_cells.specs.OpenCells.{open_cell_of}
use Rattle.text_cells.proofs.row_lines.row_height.Goals as goal

pub loop-cell-preserved : goal.loop-cell-preserved
loop-cell-preserved g c =
    let seen = g.T.EqualCopy.seen in
    let height = c.loop-cell.height in
    ap (λ n. fold (λ m x. max m (cell_height x)) n (map (open_cell_of seen) c.in-Some.others.now))
    (c.max-height.ensures ∙ ap (λ n. max height n) c.height.ensures)
    ∙ ap (λ cells. fold (λ m x. max m (cell_height x)) height (map (open_cell_of seen) cells))
    (sym c.in-Some.ensures.cases.0)
    ∙ c.loop-cell.invariant
