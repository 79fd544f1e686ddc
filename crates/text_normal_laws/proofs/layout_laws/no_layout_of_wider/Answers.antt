use Rattle.text_normal.proofs.LayoutWidths.{no_layout_of_wider as law}
use Rattle.text_normal_laws.proofs.layout_laws.no_layout_of_wider.Goals as goal

pub returns : goal.returns
returns g c = λ w before after m wide. law w before after m wide
