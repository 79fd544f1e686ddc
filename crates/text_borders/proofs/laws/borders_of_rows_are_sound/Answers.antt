use Rattle.text_borders.specs.Across.{row_cells}
use Rattle.std.specs.Prelude.{Some}
use Rattle.text_borders.proofs.AcrossLemmas.{below_sound, above_sound}
use Rattle.text_borders.proofs.laws.borders_of_rows_are_sound.Goals as goal

pub returns-clause-below : goal.returns-clause-below
returns-clause-below g c = λ draws collapse tag above cells hanging. below_sound draws collapse tag above cells hanging

pub returns-clause-above : goal.returns-clause-above
returns-clause-above g c = λ draws collapse tag above cells hanging sound.
    above_sound (row_cells collapse tag (Some above) cells hanging) above sound
