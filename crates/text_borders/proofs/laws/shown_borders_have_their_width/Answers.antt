use Rattle.text_borders.proofs.BorderLemmas.{border_columns}
use Rattle.text_borders.proofs.laws.shown_borders_have_their_width.Goals as goal

pub returns : goal.returns
returns g c = λ b sound. border_columns b sound
