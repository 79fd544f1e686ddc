use Rattle.std.proofs.Common.{refl}
use Rattle.unicode_width.proofs.Computing.{unicode_width}
use Rattle.text_lines.specs.Columns.{columns_of, width_of}
use Rattle.text_normal_laws.proofs.units_rows.wide_characters_are_cut.Goals as goal

pub returns : goal.returns
unfolding unicode_width columns_of width_of
returns c = refl
