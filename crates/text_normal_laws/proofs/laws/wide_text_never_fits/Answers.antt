use Rattle.text_normal.proofs.PlainLines.{wide_never}
use Rattle.text_normal_laws.proofs.laws.wide_text_never_fits.Goals as goal

pub returns : goal.returns
returns g c = λ width source wide. wide_never width source wide
