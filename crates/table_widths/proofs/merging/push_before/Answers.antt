use Rattle.std.proofs.Common.{◌+◌, arith, false, subst, sym}
use Rattle.std.proofs.lemmas.Bool.Decides.{nat_tests}
use Rattle.table_widths.proofs.MergeLemmas.{IsPushing, pushing_more}
use Rattle.table_widths.proofs.merging.push_before.Goals as goal

pub others-preserved : goal.others-preserved
others-preserved c =
    subst (IsPushing c.args.slot c.args.others.now c.args.from (c.others.at + 1) c.args.row.now.items)
    (sym c.in_ok-push.ensures.items)
    (pushing_more c.args.slot c.args.others.now c.args.from c.others.at c.args.row.now.items c.others.row.items
    (record { first = 0; last = 0; rows = 0; is_cell = false }) (omega arith) (grind (arith, nat_tests))
    c.others.invariant)
