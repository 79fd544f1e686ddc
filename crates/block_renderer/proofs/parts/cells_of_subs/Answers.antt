use Rattle.std.proofs.Common.{map, ap, sym, ◌≡◌, length, arith}
use Rattle.std.specs.Vec.Iter.{into_iter_items}
use Rattle.text_cells.specs.Cells.{cell_of}
use Rattle.block_renderer.specs.Seen.{sub_of, tags_seen}
use Rattle.block_renderer.proofs.CellLemmas.{next_cell, all_cells, no_items}
use Rattle.block_renderer.proofs.InlineLemmas.{mapped_more}
use Rattle.block_renderer.proofs.parts.cells_of_subs.Goals as goal

pub loop-cell-preserved : goal.loop-cell-preserved
loop-cell-preserved g c =
    let seen = g.D.Annotation.EqualCopy.seen in
    let s = sub_of seen g.D.TextDecorator.view.held in
    record {
      cells = next_cell (map (cell_of (tags_seen seen)) c.loop-cell.done.items)
          (map (cell_of (tags_seen seen)) c.push.new.self.items) (s c.in-Some.cell, c.in-Some.rows)
          (cell_of (tags_seen seen) c.in_ok-into_cell.field-0)
          (map (λ p. (s p.0, p.1)) (into_iter_items c.next.new.self))
          (map (λ p. (s p.0, p.1)) (into_iter_items c.loop-cell.cell-iterator)) _
          (ap (map (λ p. (s p.0, p.1))) c.in-Some.ensures.steps.0) c.in_ok-into_cell.ensures.cell
          (sym (mapped_more (cell_of (tags_seen seen)) c.loop-cell.done.items c.push.new.self.items
          c.in_ok-into_cell.field-0 c.in_ok-push.ensures.items))
          c.loop-cell.invariant.cells;
      can_next = tt;
      is_finite = tt;
    }

pub returns-clause-cells : goal.returns-clause-cells
returns-clause-cells g c =
    let seen = g.D.Annotation.EqualCopy.seen in
    let s = sub_of seen g.D.TextDecorator.view.held in
    let left : length (into_iter_items c.loop-cell.cell-iterator) ≡ 0
    = omega (arith, c.loop-cell.cell-iterator.rest.ok.0, c.in-None.ensures.steps.0) in
    all_cells (map (cell_of (tags_seen seen)) c.loop-cell.done.items)
    (map (λ p. (s p.0, p.1)) (into_iter_items c.loop-cell.cell-iterator)) _
    (no_items (λ p. (s p.0, p.1)) (into_iter_items c.loop-cell.cell-iterator) left) c.loop-cell.invariant.cells
