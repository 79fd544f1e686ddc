use Rattle.std.proofs.Common.{arith}
use Rattle.table_grid.proofs.EndLemmas.{ended_more, ended_sorted}
use Rattle.table_grid.proofs.ends.ended_above.Goals as goal
use Rattle.table_grid.proofs.ends.ended_above.Goals.{then-loop-at-test+else-ends-at, else-loop-at-test}

pub loop-at-preserved : goal.loop-at-preserved
loop-at-preserved c =
    rw c.in_ok-push.ensures.items
    (ended_more c.args.ends.now c.args.over c.loop-at.at c.args.placed.now c.args.row c.loop-at.ended.items
    c.cover.result
    (omega arith) (omega arith) c.cover.ensures c.loop-at.invariant)

pub returns : goal.returns
returns c =
    ended_sorted c.args.ends.now c.args.over c.loop-at.at c.args.placed.now c.args.row c.loop-at.ended.items
    c.sort_covers.new.covers.items c.loop-at.invariant
    (λ lt. elim c.loop-at-test.branch [
      | then-loop-at-test+else-ends-at w ↦ (let e = w.if-ends-at in omega arith)
      | else-loop-at-test w ↦ absurd (omega (arith, w.loop-at-test))
    ])
    c.sort_covers.ensures.moved c.sort_covers.ensures.rising
