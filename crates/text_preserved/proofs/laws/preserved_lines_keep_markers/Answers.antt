use Rattle.text_preserved.proofs.LayingMarkers.{lines_keep_markers as law}
use Rattle.text_preserved.proofs.laws.preserved_lines_keep_markers.Goals as goal

pub returns : goal.returns
returns g c = λ width wraps line. law width wraps line
