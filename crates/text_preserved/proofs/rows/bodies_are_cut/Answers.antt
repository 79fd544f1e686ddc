use Rattle.std.proofs.Common.{refl}
use Rattle.unicode_width.specs.Width.{char_width}
use Rattle.text_lines.specs.Columns.{columns_of, width_of}
use Rattle.text_preserved.specs.Preserved.{preserved_lines, kind_of}
use Rattle.text_preserved.proofs.rows.bodies_are_cut.Goals as goal

pub returns-clause-wide : goal.returns-clause-wide
unfolding preserved_lines kind_of columns_of width_of char_width
returns-clause-wide c = refl

pub returns-clause-trailing : goal.returns-clause-trailing
unfolding preserved_lines kind_of columns_of width_of char_width
returns-clause-trailing c = refl

pub returns-clause-indented : goal.returns-clause-indented
unfolding preserved_lines kind_of columns_of width_of char_width
returns-clause-indented c = refl

pub returns-clause-narrow : goal.returns-clause-narrow
unfolding preserved_lines kind_of columns_of width_of char_width
returns-clause-narrow c = refl
