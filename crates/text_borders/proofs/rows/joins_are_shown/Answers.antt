use Rattle.std.proofs.Common.{refl}
use Rattle.text_borders.proofs.rows.joins_are_shown.Goals as goal

pub returns-clause-top : goal.returns-clause-top
returns-clause-top g c = λ tag. refl

pub returns-clause-between : goal.returns-clause-between
returns-clause-between g c = λ tag. refl
