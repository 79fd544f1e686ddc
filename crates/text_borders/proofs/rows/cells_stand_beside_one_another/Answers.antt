use Rattle.std.proofs.Common.{refl}
use Rattle.unicode_width.specs.Width.{char_width}
use Rattle.text_lines.specs.Columns.{columns_of, width_of}
use Rattle.text_borders.proofs.rows.cells_stand_beside_one_another.Goals as goal

pub returns-clause-cells : goal.returns-clause-cells
unfolding columns_of width_of char_width
returns-clause-cells g c = λ tag. refl

pub returns-clause-widened : goal.returns-clause-widened
unfolding columns_of width_of char_width
returns-clause-widened g c = λ tag. refl

pub returns-clause-first : goal.returns-clause-first
unfolding columns_of width_of char_width
returns-clause-first g c = λ tag. refl

pub returns-clause-second : goal.returns-clause-second
unfolding columns_of width_of char_width
returns-clause-second g c = λ tag. refl

pub returns-clause-tables : goal.returns-clause-tables
unfolding columns_of width_of char_width
returns-clause-tables g c = λ tag. refl

pub returns-clause-plain : goal.returns-clause-plain
unfolding columns_of width_of char_width
returns-clause-plain g c = λ tag. refl
