use Rattle.text_borders.proofs.AcrossLemmas.{row_above_sound, row_above_width, row_below_columns, row_below_sound}
use Rattle.text_borders.proofs.AcrossLemmas.{row_below_width, row_hanging_fit, row_lines_columns}
use Rattle.text_borders.proofs.laws.rows_keep_their_width.Goals as goal

pub returns-clause-lines : goal.returns-clause-lines
returns-clause-lines g c = λ draws collapse tag above cells hanging all hangs.
    row_lines_columns draws collapse tag above cells hanging all hangs

pub returns-clause-below : goal.returns-clause-below
returns-clause-below g c = λ draws collapse tag above cells hanging all hangs.
    row_below_columns draws collapse tag above cells hanging all hangs

pub returns-clause-below_width : goal.returns-clause-below_width
returns-clause-below_width g c = λ draws collapse tag above cells hanging all hangs.
    row_below_width draws collapse tag above cells hanging all hangs

pub returns-clause-below_sound : goal.returns-clause-below_sound
returns-clause-below_sound g c = λ draws collapse tag above cells hanging all hangs.
    row_below_sound draws collapse tag above cells hanging all hangs

pub returns-clause-above_width : goal.returns-clause-above_width
returns-clause-above_width g c = λ draws collapse tag above cells hanging all hangs.
    row_above_width collapse tag above cells hanging all hangs

pub returns-clause-above_sound : goal.returns-clause-above_sound
returns-clause-above_sound g c = λ draws collapse tag above cells hanging all hangs sound.
    row_above_sound collapse tag above cells hanging all hangs sound

pub returns-clause-hanging : goal.returns-clause-hanging
returns-clause-hanging g c = λ draws collapse tag above cells hanging all hangs.
    row_hanging_fit draws collapse tag above cells hanging all hangs
