use Rattle.std.proofs.Common.{refl}
use Rattle.unicode_width.specs.Width.{char_width}
use Rattle.text_lines.specs.Columns.{columns_of, width_of}
use Rattle.text_borders.proofs.rows.holes_chop_their_neighbours.Goals as goal

pub returns-clause-first : goal.returns-clause-first
unfolding columns_of width_of char_width
returns-clause-first g c = λ tag. refl

pub returns-clause-last : goal.returns-clause-last
unfolding columns_of width_of char_width
returns-clause-last g c = λ tag. refl

pub returns-clause-between : goal.returns-clause-between
unfolding columns_of width_of char_width
returns-clause-between g c = λ tag. refl

pub returns-clause-pushed : goal.returns-clause-pushed
unfolding columns_of width_of char_width
returns-clause-pushed g c = λ tag. refl
