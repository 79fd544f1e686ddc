use Rattle.std.proofs.Common.{refl}
use Rattle.text_borders.proofs.rows.lines_come_down.Goals as goal

pub returns : goal.returns
returns g c = λ tag. refl
