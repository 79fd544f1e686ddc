use Rattle.text_borders.proofs.FillLemmas.{filled_columns, filled_sound}
use Rattle.text_borders.proofs.laws.filled_borders_stay_sound.Goals as goal

pub returns-clause-width : goal.returns-clause-width
returns-clause-width g c = λ width b. filled_columns width b

pub returns-clause-sound : goal.returns-clause-sound
returns-clause-sound g c = λ width b sound. filled_sound width b sound
