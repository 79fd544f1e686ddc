use Rattle.std.proofs.Common.{ℕ, ◌+◌, arith, subst, sym}
use Rattle.table_grid.proofs.WithoutLemmas.{IsCutting, cutting_first, cutting_more, cutting_end}
use Rattle.table_grid.proofs.without.push_without.Goals as goal
use Rattle.table_grid.proofs.without.push_without.Goals.{then-loop-next-test+else-ended-next, else-loop-next-test}

pub loop-next-init : goal.loop-next-init
loop-next-init c =
    subst (λ (n : ℕ). IsCutting c.args.covers.now c.args.ended.now c.args.i c.args.at c.args.trailing c.args.at n
    c.args.kept.now.items c.args.kept.now.items) (sym c.max-left.ensures)
    (cutting_first c.args.covers.now c.args.ended.now c.args.i c.args.at c.args.trailing c.args.kept.now.items
    c.requires.ordered c.requires.within c.requires.kept)

pub loop-next-preserved : goal.loop-next-preserved
loop-next-preserved c =
    subst (λ (n : ℕ). IsCutting c.args.covers.now c.args.ended.now c.args.i c.args.at c.args.trailing
    (c.loop-next.next + 1) n c.args.kept.now.items c.push_part.new.kept.items) (sym c.max-left-in-loop-next.ensures)
    (cutting_more c.args.covers.now c.args.ended.now c.args.i c.args.at c.args.trailing c.args.kept.now.items
    c.requires.ordered c.requires.within c.requires.kept c.loop-next.next c.loop-next.left c.loop-next.kept.items
    c.push_part.new.kept.items c.requires.rising c.requires.some c.loop-next.invariant (omega arith) (omega arith)
    c.in_ok-push_part.ensures)

pub returns : goal.returns
returns c =
    cutting_end c.args.covers.now c.args.ended.now c.args.i c.args.at c.args.trailing c.args.kept.now.items
    c.requires.ordered c.requires.within c.requires.kept c.loop-next.next c.loop-next.left c.loop-next.kept.items
    c.push_part-2.new.kept.items c.requires.rising c.loop-next.invariant
    (λ lt. elim c.loop-next-test.branch [
      | then-loop-next-test+else-ended-next w ↦ (let e = w.if-ended-next in omega arith)
      | else-loop-next-test w ↦ absurd (omega (arith, w.loop-next-test))
    ])
    c.in_ok-push_part-2.ensures
