use Rattle.std.proofs.Common.{arith, get_or, refl}
use Rattle.table_grid.proofs.EndLemmas.{ends_first, ends_more, ends_sorted}
use Rattle.table_grid.proofs.RowLemmas.{no_place}
use Rattle.table_grid.proofs.ends.ends_of.Goals as goal

pub loop-place-init : goal.loop-place-init
loop-place-init c = rw c.new-ends.ensures.items (ends_first c.args.cells.now)

pub loop-place-preserved : goal.loop-place-preserved
loop-place-preserved c =
    rw c.in_ok-push.ensures.items
    (ends_more c.args.cells.now c.loop-place.place c.loop-place.ends.items
    (get_or c.args.cells.now c.loop-place.place no_place) no_place (omega arith) refl
    c.loop-place.invariant)

pub returns : goal.returns
returns c =
    ends_sorted c.args.cells.now c.loop-place.place c.loop-place.ends.items c.sort_ends.new.ends.items (omega arith)
    c.loop-place.invariant c.sort_ends.ensures.moved c.sort_ends.ensures.rising
