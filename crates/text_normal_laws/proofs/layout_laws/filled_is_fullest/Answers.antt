use Rattle.text_normal.proofs.LayoutFilling.{filled_is_fullest as law}
use Rattle.text_normal_laws.proofs.layout_laws.filled_is_fullest.Goals as goal

pub returns : goal.returns
returns g c = λ w o ps room has. law w o ps room has
