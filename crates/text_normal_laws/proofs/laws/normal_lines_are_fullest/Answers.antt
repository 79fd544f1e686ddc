use Rattle.text_normal.proofs.PlainLines.{plain_lines_are}
use Rattle.text_normal_laws.proofs.laws.normal_lines_are_fullest.Goals as goal

pub returns : goal.returns
returns g c = λ width overflow source none room. plain_lines_are width overflow source none room
