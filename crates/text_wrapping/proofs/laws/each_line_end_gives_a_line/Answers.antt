use Rattle.text_wrapping.proofs.BlockLaws.{line_ends_give}
use Rattle.text_wrapping.proofs.laws.each_line_end_gives_a_line.Goals as goal

pub returns : goal.returns
returns g c = λ mode cs main further b new preserved is. line_ends_give mode cs main further b new preserved is
