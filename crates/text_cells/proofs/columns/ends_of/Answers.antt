use Rattle.std.proofs.Common.{◌-◌, ◌++◌, map, sym, ap, ◌∙◌, arith}
use Rattle.text_cells.specs.OpenCells.{open_cell_of, ends}
use Rattle.text_cells.proofs.JoiningLemmas.{more_ends}
use Rattle.text_cells.proofs.columns.ends_of.Goals as goal

pub loop-cell-preserved : goal.loop-cell-preserved
loop-cell-preserved g c =
    let seen = g.T.EqualCopy.seen in
    let old = c.loop-cell.ends.items in
    more_ends c.loop-cell.at c.in_ok-next.next (c.in_ok-next.next - 1) (open_cell_of seen c.in-Some.cell.now)
    (map (open_cell_of seen) c.in-Some.others.now) old c.push.new.self.items c.in_ok-next.ensures
    (omega (arith, c.in_ok-next.ensures)) c.in_ok-push.ensures.ok
    ∙ ap (λ cells. old ++ ends c.loop-cell.at (map (open_cell_of seen) cells)) (sym c.in-Some.ensures.cases.0)
    ∙ c.loop-cell.invariant
