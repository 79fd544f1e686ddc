use Rattle.std.proofs.Common.{◌≡◌, map, take}
use Rattle.column_fits.specs.Fits.{begun}
use Rattle.column_fits.proofs.fit.begin.Given as goal

abbrev pub invariant-loop-column : goal.invariant-loop-column
invariant-loop-column l = l.fits.items ≡ map begun (take l.column-index l.columns)
