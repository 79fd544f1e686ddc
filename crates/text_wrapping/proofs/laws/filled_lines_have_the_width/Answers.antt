use Rattle.text_wrapping.proofs.BlockLaws.{filled_width}
use Rattle.text_wrapping.proofs.laws.filled_lines_have_the_width.Goals as goal

pub returns : goal.returns
returns g c = λ width tag line fits. filled_width width tag line fits
