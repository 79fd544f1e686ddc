use Rattle.std.proofs.Common.{◌≡◌, map, take}
use Rattle.column_fits.specs.Fits.{low_of}
use Rattle.column_fits.proofs.across.lows_of.Given as goal

abbrev pub invariant-loop-fit : goal.invariant-loop-fit
invariant-loop-fit l = l.lows.items ≡ map low_of (take l.fit-index l.fits)
