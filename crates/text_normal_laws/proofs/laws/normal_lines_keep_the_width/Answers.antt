use Rattle.text_normal_laws.proofs.MarkedWidth.{marked_lines_fit}
use Rattle.text_normal_laws.proofs.laws.normal_lines_keep_the_width.Goals as goal

pub returns : goal.returns
returns g c = λ width source narrow. marked_lines_fit width source narrow
