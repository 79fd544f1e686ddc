use Rattle.std.proofs.Common.{filter, take}
use Rattle.column_fits.specs.Fits.{is_over}
use Rattle.column_fits.proofs.WidenLemmas.{IsWidened}
use Rattle.column_fits.proofs.widening.widen_by_single.Given as goal

abbrev pub invariant-loop-cell : goal.invariant-loop-cell
invariant-loop-cell l = IsWidened l.fn.fits l.fits (filter (is_over 1) (take l.cell-index l.cells))
