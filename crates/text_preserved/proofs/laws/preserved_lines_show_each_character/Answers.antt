use Rattle.text_preserved.proofs.LayingCharacters.{lines_show_each_character as law}
use Rattle.text_preserved.proofs.laws.preserved_lines_show_each_character.Goals as goal

pub returns : goal.returns
returns g c = λ width wraps line. law width wraps line
