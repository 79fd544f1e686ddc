use Rattle.std.proofs.Common.{◌≡◌, map, take}
use Rattle.column_fits.specs.Fits.{high_of}
use Rattle.column_fits.proofs.across.highs_of.Given as goal

abbrev pub invariant-loop-fit : goal.invariant-loop-fit
invariant-loop-fit l = l.highs.items ≡ map high_of (take l.fit-index l.fits)
