use Rattle.std.proofs.Common.{◌≡◌, ◌∙◌, ap, arith, count_by, length, take_all}
use Rattle.table_grid.specs.Grid.{has_size}
use Rattle.table_grid.proofs.PartLemmas.{counts_all}
use Rattle.table_grid.proofs.columns.counts_before.Goals as goal

pub returns-clause-each : goal.returns-clause-each
returns-clause-each c =
    let same : length c.loop-column.counts.items ≡ length c.args.columns.now = let a = c.loop-column.invariant.same in
    let b = c.loop-column.auto in omega arith in
    let all : c.loop-column.column-index ≡ length c.args.columns.now = let b = c.loop-column.auto in omega arith in
    rw c.in_ok-push-2.ensures.items
    (counts_all c.loop-column.counts.items c.args.columns.now c.loop-column.count same
    (c.loop-column.invariant.count ∙ ap (count_by has_size)
    (take_all c.loop-column.column-index c.args.columns.now (omega arith)))
    (λ k lt. c.loop-column.invariant.each k (omega arith)))
