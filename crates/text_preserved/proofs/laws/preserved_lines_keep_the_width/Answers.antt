use Rattle.text_preserved.proofs.LayingWidth.{lines_keep_the_width as law}
use Rattle.text_preserved.proofs.laws.preserved_lines_keep_the_width.Goals as goal

pub returns : goal.returns
returns g c = λ width wraps line narrow. law width wraps line narrow
