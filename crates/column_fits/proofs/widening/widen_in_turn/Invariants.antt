use Rattle.std.proofs.Common.{take}
use Rattle.column_fits.proofs.WidenLemmas.{IsWidened}
use Rattle.column_fits.proofs.widening.widen_in_turn.Given as goal

abbrev pub invariant-loop-cell : goal.invariant-loop-cell
invariant-loop-cell l = IsWidened l.fn.fits l.fits (take l.cell-index l.cells)
