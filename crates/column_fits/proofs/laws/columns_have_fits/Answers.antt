use Rattle.column_fits.proofs.FitLemmas.{have_fits}
use Rattle.column_fits.proofs.laws.columns_have_fits.Goals as goal

pub returns : goal.returns
returns c = λ columns cells within. have_fits columns cells within
