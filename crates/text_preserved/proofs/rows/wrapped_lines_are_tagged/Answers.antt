use Rattle.std.proofs.Common.{refl}
use Rattle.unicode_width.specs.Width.{char_width}
use Rattle.text_lines.specs.Columns.{columns_of, width_of}
use Rattle.text_preserved.specs.Preserved.{preserved_lines, kind_of}
use Rattle.text_preserved.proofs.rows.wrapped_lines_are_tagged.Goals as goal

pub returns : goal.returns
unfolding preserved_lines kind_of columns_of width_of char_width
returns c = refl
