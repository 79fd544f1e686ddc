use Rattle.std.proofs.Common.{◌≡◌, ◌++◌, drop, map, take}
use Rattle.column_fits.specs.Fits.{settled}
use Rattle.column_fits.proofs.fit.settle.Given as goal

abbrev pub invariant-loop-fit : goal.invariant-loop-fit
invariant-loop-fit l = l.fits ≡ map settled (take l.fit-index l.initial.fits) ++ drop l.fit-index l.initial.fits
