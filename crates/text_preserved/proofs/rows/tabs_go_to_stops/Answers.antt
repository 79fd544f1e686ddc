use Rattle.std.proofs.Common.{refl}
use Rattle.unicode_width.specs.Width.{char_width}
use Rattle.text_lines.specs.Columns.{columns_of, width_of}
use Rattle.text_preserved.specs.Preserved.{preserved_lines, kind_of}
use Rattle.text_preserved.proofs.rows.tabs_go_to_stops.Goals as goal

pub returns-clause-stop : goal.returns-clause-stop
unfolding preserved_lines kind_of columns_of width_of char_width
returns-clause-stop c = refl

pub returns-clause-last : goal.returns-clause-last
unfolding preserved_lines kind_of columns_of width_of char_width
returns-clause-last c = refl
