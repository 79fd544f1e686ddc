use Rattle.table_fits.proofs.PassedLemmas.{passed_gives}
use Rattle.table_fits.proofs.laws.passes_give_fits.Goals as goal

pub returns : goal.returns
returns c = passed_gives
