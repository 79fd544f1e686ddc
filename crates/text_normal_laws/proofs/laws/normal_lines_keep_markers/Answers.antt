use Rattle.text_normal_laws.proofs.MarkedKept.{markers_kept}
use Rattle.text_normal_laws.proofs.laws.normal_lines_keep_markers.Goals as goal

pub returns : goal.returns
returns g c = λ width source. markers_kept width source
