use Rattle.text_normal_laws.proofs.MarkedShown.{characters_shown}
use Rattle.text_normal_laws.proofs.laws.normal_lines_show_each_character.Goals as goal

pub returns : goal.returns
returns g c = λ width source. characters_shown width source
