use Rattle.std.proofs.Common.{◌++◌, map, sym, ap, ◌∙◌, arith}
use Rattle.std.proofs.lemmas.Bool.Decides.{nat_tests}
use Rattle.std.proofs.lemmas.List.{map_push, nil_from_length}
use Rattle.std.specs.Vec.Iter.{into_iter_items}
use Rattle.text_borders.specs.Across.{seated}
use Rattle.text_cells.specs.Cells.{cell_of, hanging_of}
use Rattle.text_cells.proofs.SeatingLemmas.{more_seated, none_hangs}
use Rattle.text_cells.proofs.seating.seated.Goals as goal

pub returns-then-is_empty : goal.returns-then-is_empty
returns-then-is_empty g c =
    let seen = g.T.EqualCopy.seen in
    none_hangs 0 (map (cell_of seen) c.args.cells.items) (map (hanging_of seen) c.args.hanging.items)
    (ap (map (hanging_of seen)) (nil_from_length c.args.hanging.items (grind (arith, nat_tests, c.args.hanging.ok.0))))

pub loop-cell-preserved : goal.loop-cell-preserved
loop-cell-preserved g c =
    let seen = g.T.EqualCopy.seen in
    let row = map (cell_of seen) c.loop-cell.row.items in
    let waiting = map (hanging_of seen) c.loop-cell.waiting.items in
    let cells = map (cell_of seen) (into_iter_items c.next.new.self) in
    more_seated c.loop-cell.at c.in_ok-next.next (cell_of seen c.in-Some.cell) (cell_of seen c.seated_at.result) cells
    row (map (cell_of seen) c.push.new.self.items) waiting (map (hanging_of seen) c.seated_at.new.waiting.items)
    c.in_ok-next.ensures (c.seated_at.ensures cells)
    (ap (map (cell_of seen)) c.in_ok-push.ensures.items
    ∙ map_push (cell_of seen) c.loop-cell.row.items c.seated_at.result)
    ∙ ap (λ left. row ++ seated c.loop-cell.at (map (cell_of seen) left) waiting) (sym c.in-Some.ensures.steps.0)
    ∙ c.loop-cell.invariant
