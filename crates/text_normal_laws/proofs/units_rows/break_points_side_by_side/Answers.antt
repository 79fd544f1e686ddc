use Rattle.std.proofs.Common.{refl}
use Rattle.unicode_width.proofs.Computing.{unicode_width}
use Rattle.text_lines.specs.Columns.{columns_of, width_of}
use Rattle.text_normal_laws.proofs.units_rows.break_points_side_by_side.Goals as goal

pub returns : goal.returns
unfolding unicode_width columns_of width_of
returns c = record { space_first = refl; space_first_lines = refl; space_last = refl; space_last_lines = refl }
