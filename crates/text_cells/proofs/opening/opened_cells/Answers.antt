use Rattle.std.proofs.Common.{◌≡◌, length, map, arith}
use Rattle.std.specs.Vec.Iter.{into_iter_items}
use Rattle.text_borders.specs.Across.{opened}
use Rattle.text_cells.specs.Cells.{cell_of}
use Rattle.text_cells.specs.OpenCells.{open_cell_of}
use Rattle.text_cells.proofs.OpeningLemmas.{all_seen, next_seen}
use Rattle.text_cells.proofs.opening.opened_cells.Goals as goal

pub loop-cell-preserved : goal.loop-cell-preserved
loop-cell-preserved g c =
    let seen = g.T.EqualCopy.seen in
    next_seen (open_cell_of seen) (opened c.args.collapse c.args.above (seen c.args.tag.now)) (cell_of seen)
    c.loop-cell.row.items c.push.new.self.items c.in_ok-opened.field-0 (into_iter_items c.loop-cell.cell-iterator)
    (into_iter_items c.next.new.self) c.in-Some.cell _ c.in_ok-push.ensures.items c.in-Some.ensures.steps.0
    c.in_ok-opened.ensures c.loop-cell.invariant

pub returns : goal.returns
returns g c =
    let seen = g.T.EqualCopy.seen in
    let left : length (into_iter_items c.loop-cell.cell-iterator) ≡ 0
    = omega (arith, c.loop-cell.cell-iterator.rest.ok.0, c.in-None.ensures.steps.0) in
    all_seen (map (open_cell_of seen) c.loop-cell.row.items) (opened c.args.collapse c.args.above (seen c.args.tag.now))
    (cell_of seen) (into_iter_items c.loop-cell.cell-iterator) _ left c.loop-cell.invariant
