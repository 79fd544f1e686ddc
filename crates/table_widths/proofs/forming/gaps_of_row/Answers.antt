use Rattle.std.proofs.Common.{◌+◌, Global, Vec, ap, arith, subst, sym, ◌∙◌}
use Rattle.table_widths.specs.declared.slot.Slot.{Slot}
use Rattle.table_widths.proofs.GapLemmas.{AreGapsTaken, gaps_all, gaps_more, gaps_same, gaps_skipped}
use Rattle.table_widths.proofs.forming.gaps_of_row.Goals as goal
use Rattle.table_widths.proofs.forming.gaps_of_row.Goals.{else-gaps-at-3, else-gaps-test, then-gaps-at-3+in_ok-push}
use Rattle.table_widths.proofs.forming.gaps_of_row.Goals.{then-gaps-test+else-gaps-at-2}

pub earlier-preserved : goal.earlier-preserved
earlier-preserved c =
    gaps_skipped c.args.gaps.now c.args.row c.earlier.at (omega arith) (omega arith) c.earlier.invariant

pub gaps-preserved : goal.gaps-preserved
gaps-preserved c = elim c.if-gaps-at-3.branch [
  | then-gaps-at-3+in_ok-push w ↦ subst (AreGapsTaken c.args.gaps.now c.args.row (c.gaps.at + 1))
      (sym (ap (λ (v : Vec Slot Global). v.items) w.slots-is ∙ w.in_ok-push.ensures.items))
      (gaps_more c.args.gaps.now c.args.row c.gaps.at c.gaps.slots.items c.requires.rows (omega arith) (omega arith)
      w.if-gaps-at-3.true c.gaps.invariant)
  | else-gaps-at-3 w ↦ subst (AreGapsTaken c.args.gaps.now c.args.row (c.gaps.at + 1))
      (sym (ap (λ (v : Vec Slot Global). v.items) w.slots-is))
      (gaps_same c.args.gaps.now c.args.row c.gaps.at c.gaps.slots.items c.requires.rows (omega arith) (omega arith)
      w.if-gaps-at-3.false c.gaps.invariant)
]

pub returns-clause-slots : goal.returns-clause-slots
returns-clause-slots c =
    gaps_all c.args.gaps.now c.args.row c.gaps.at c.gaps.slots.items c.requires.rows
    (λ lt e. elim c.gaps-test.branch [
      | then-gaps-test+else-gaps-at-2 w ↦ w.if-gaps-at-2.false e
      | else-gaps-test w ↦ omega (arith, w.gaps-test)
    ])
    c.gaps.invariant
