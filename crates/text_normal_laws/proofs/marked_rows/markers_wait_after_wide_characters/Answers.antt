use Rattle.std.proofs.Common.{refl}
use Rattle.unicode_width.proofs.Computing.{unicode_width}
use Rattle.text_lines.specs.Columns.{columns_of, width_of}
use Rattle.text_normal.specs.Riders.{normal_lines}
use Rattle.text_normal_laws.proofs.marked_rows.markers_wait_after_wide_characters.Goals as goal

pub returns : goal.returns
unfolding normal_lines unicode_width columns_of width_of
returns c = refl
