use Rattle.text_normal.proofs.NormalFinal.{lines_within}
use Rattle.text_normal_laws.proofs.layout_laws.lines_keep_the_width.Goals as goal

pub returns : goal.returns
returns g c = λ w read lines are. lines_within w read lines are
