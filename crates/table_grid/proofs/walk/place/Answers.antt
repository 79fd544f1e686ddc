use Rattle.std.proofs.Common.{ℕ, ◌+◌, arith, subst, sym}
use Rattle.table_grid.proofs.WalkLemmas.{IsReached, reached_more, reached_end}
use Rattle.table_grid.proofs.walk.place.Goals as goal

pub loop-at-preserved : goal.loop-at-preserved
loop-at-preserved c =
    subst (λ (n : ℕ). IsReached c.args.covers.now c.args.trailing c.args.span (c.loop-at.at + 1) n)
    (sym c.max-start.ensures)
    (reached_more c.args.covers.now c.args.trailing c.args.span c.loop-at.at c.loop-at.start c.requires.ordered
    c.requires.some c.loop-at.invariant
    (omega arith) (omega arith)
    (c.requires.small_covers c.loop-at.at (record { left = 0; right = 0 }) (omega arith)))

pub returns-else-covers-at-clause-place : goal.returns-else-covers-at-clause-place
returns-else-covers-at-clause-place c =
    reached_end c.args.covers.now c.args.trailing c.args.span c.loop-at.at c.loop-at.start c.requires.ordered
    c.loop-at.invariant (λ lt. omega arith)

pub returns-after-loop-at-clause-place : goal.returns-after-loop-at-clause-place
returns-after-loop-at-clause-place c =
    reached_end c.args.covers.now c.args.trailing c.args.span c.loop-at.at c.loop-at.start c.requires.ordered
    c.loop-at.invariant (λ lt. absurd (omega arith))
