use Rattle.column_fits.proofs.PartLemmas.{IsRaising}
use Rattle.column_fits.proofs.widening.raise.Given as goal

abbrev pub invariant-loop-i : goal.invariant-loop-i
invariant-loop-i l = IsRaising l.fn.columns l.columns l.low_lack l.high_lack l.total l.i l.low_left l.high_left
