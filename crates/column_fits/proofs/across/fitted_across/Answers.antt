use Rattle.std.proofs.Common.{arith}
use Rattle.column_fits.proofs.AcrossLemmas.{none_fitted, some_fitted}
use Rattle.column_fits.proofs.across.fitted_across.Goals as goal

pub returns-then-total_least-width : goal.returns-then-total_least-width
returns-then-total_least-width c = none_fitted c.args.columns.now c.args.fits.now c.args.width (omega arith)

pub returns : goal.returns
returns c =
    some_fitted c.args.columns.now c.args.fits.now c.args.width c.in_ok-widths.widths.items (omega arith)
    c.in_ok-widths.ensures
