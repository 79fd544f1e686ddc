use Rattle.text_preserved.proofs.LayingPlain.{a_line_that_fits as law}
use Rattle.text_preserved.proofs.laws.a_line_that_fits_is_itself.Goals as goal

pub returns : goal.returns
returns g c = λ width wraps line plain fits. law width wraps line plain fits
