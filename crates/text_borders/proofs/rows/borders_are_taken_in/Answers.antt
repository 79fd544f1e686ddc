use Rattle.std.proofs.Common.{refl}
use Rattle.text_borders.proofs.rows.borders_are_taken_in.Goals as goal

pub returns-clause-below : goal.returns-clause-below
returns-clause-below g c = λ tag. refl

pub returns-clause-above : goal.returns-clause-above
returns-clause-above g c = λ tag. refl
