use Rattle.std.proofs.Common.{◌+◌, ◌++◌, map, sym, ap, ◌∙◌, append_assoc}
use Rattle.std.specs.Vec.Iter.{into_iter_items}
use Rattle.text_borders.specs.Borders.{border_of}
use Rattle.text_borders.specs.Across.{with_holes, hanging_of as left_of}
use Rattle.text_cells.specs.Cells.{hanging_of}
use Rattle.text_cells.specs.OpenCells.{open_cell_of, left_at}
use Rattle.text_cells.proofs.going_on.going_on.Goals as goal

pub loop-cell-preserved : goal.loop-cell-preserved
loop-cell-preserved g c =
    let seen = g.T.EqualCopy.seen in
    let tag = seen c.args.tag.now in
    let at = c.loop-cell.at in
    let cell = open_cell_of seen c.in-Some.cell in
    let rest = map (open_cell_of seen) (into_iter_items c.next.new.self) in
    let old = map (hanging_of seen) c.loop-cell.hanging.items in
    record {
      below = ap (λ n. with_holes tag 0 n rest (border_of seen c.go_on.new.below)) c.in_ok-next.ensures
          ∙ ap (with_holes tag 0 (at + cell.width + 1) rest) c.in_ok-go_on.ensures.below
          ∙ sym (ap (λ cs. with_holes tag 0 at (map (open_cell_of seen) cs) (border_of seen c.loop-cell.below))
          c.in-Some.ensures.steps.0) ∙ c.loop-cell.invariant.below;
      hanging = ap (λ hs. hs ++ left_of 0 c.in_ok-next.next rest) c.in_ok-go_on.ensures.hanging
          ∙ ap (λ n. (old ++ left_at at cell) ++ left_of 0 n rest) c.in_ok-next.ensures
          ∙ append_assoc old (left_at at cell) (left_of 0 (at + cell.width + 1) rest)
          ∙ sym (ap (λ cs. old ++ left_of 0 at (map (open_cell_of seen) cs)) c.in-Some.ensures.steps.0)
          ∙ c.loop-cell.invariant.hanging;
    }
