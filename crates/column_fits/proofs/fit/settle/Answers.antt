use Rattle.std.proofs.Common.{arith, get_or}
use Rattle.std.proofs.lemmas.List.{get_or_default}
use Rattle.std.proofs.lemmas.List.Edits.{map_over_more}
use Rattle.column_fits.specs.Fits.{fit_of, settled}
use Rattle.column_fits.proofs.fit.settle.Goals as goal

pub loop-fit-preserved : goal.loop-fit-preserved
loop-fit-preserved c =
    let f = get_or c.loop-fit.fits c.loop-fit.fit-index (fit_of 0 0) in
    rw c.max-fit.ensures
    (map_over_more settled c.args.fits.now c.loop-fit.fits c.loop-fit.fit-index f (omega arith)
    c.loop-fit.invariant (get_or_default c.loop-fit.fits c.loop-fit.fit-index (fit_of 0 0) f (omega arith)))
