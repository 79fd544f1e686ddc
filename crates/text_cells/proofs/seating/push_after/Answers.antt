use Rattle.std.proofs.Common.{◌+◌, ◌++◌, map, sym, ap, ◌∙◌}
use Rattle.std.specs.Vec.Iter.{into_iter_items}
use Rattle.std.proofs.lemmas.List.{map_push}
use Rattle.text_borders.specs.Across.{seated_after}
use Rattle.text_cells.specs.Cells.{cell_of, hanging_of}
use Rattle.text_cells.proofs.SeatingLemmas.{more_after}
use Rattle.text_cells.proofs.seating.push_after.Goals as goal

pub loop-last-preserved : goal.loop-last-preserved
loop-last-preserved g c =
    let seen = g.T.EqualCopy.seen in
    let row = map (cell_of seen) c.loop-last.row.items in
    more_after c.loop-last.end c.in_ok-end.end (hanging_of seen c.in-Some.last)
    (map (hanging_of seen) (into_iter_items c.next.new.self)) row (map (cell_of seen) c.push_gap.new.row.items)
    (map (cell_of seen) c.push.new.self.items)
    (c.in_ok-end.ensures ∙ ap (λ m. m + c.in-Some.last.cell.width + 1) c.max.ensures) c.in_ok-push_gap.ensures
    (ap (map (cell_of seen)) c.in_ok-push.ensures.items
    ∙ map_push (cell_of seen) c.push_gap.new.row.items c.in-Some.last.cell)
    ∙ ap (λ left. row ++ seated_after c.loop-last.end (map (hanging_of seen) left)) (sym c.in-Some.ensures.steps.0)
    ∙ c.loop-last.invariant
