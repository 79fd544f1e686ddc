use Rattle.std.proofs.Common.{refl}
use Rattle.unicode_width.specs.Width.{char_width}
use Rattle.text_lines.specs.Columns.{columns_of, width_of}
use Rattle.text_borders.proofs.rows.cells_go_on.Goals as goal

pub returns-clause-first : goal.returns-clause-first
unfolding columns_of width_of char_width
returns-clause-first g c = λ tag. refl

pub returns-clause-second : goal.returns-clause-second
unfolding columns_of width_of char_width
returns-clause-second g c = λ tag. refl

pub returns-clause-blank : goal.returns-clause-blank
unfolding columns_of width_of char_width
returns-clause-blank g c = λ tag. refl

pub returns-clause-nothing : goal.returns-clause-nothing
unfolding columns_of width_of char_width
returns-clause-nothing g c = λ tag. refl
