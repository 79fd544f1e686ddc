use Rattle.text_normal_laws.proofs.MarkersAside.{markers_stand_aside}
use Rattle.text_normal_laws.proofs.laws.markers_change_no_line.Goals as goal

pub returns : goal.returns
returns g c = λ width source narrow. markers_stand_aside width source narrow
