use Rattle.std.proofs.Common.{refl}
use Rattle.unicode_width.proofs.Computing.{unicode_width}
use Rattle.text_lines.specs.Columns.{columns_of, width_of}
use Rattle.text_normal.specs.Riders.{normal_lines, normal_waiting}
use Rattle.text_normal_laws.proofs.marked_rows.markers_ride_on_words.Goals as goal

pub returns-clause-inside : goal.returns-clause-inside
unfolding normal_lines normal_waiting unicode_width columns_of width_of
returns-clause-inside c = refl

pub returns-clause-at_cut : goal.returns-clause-at_cut
unfolding normal_lines normal_waiting unicode_width columns_of width_of
returns-clause-at_cut c = refl

pub returns-clause-between : goal.returns-clause-between
unfolding normal_lines normal_waiting unicode_width columns_of width_of
returns-clause-between c = refl

pub returns-clause-next_line : goal.returns-clause-next_line
unfolding normal_lines normal_waiting unicode_width columns_of width_of
returns-clause-next_line c = refl

pub returns-clause-bare : goal.returns-clause-bare
unfolding normal_lines normal_waiting unicode_width columns_of width_of
returns-clause-bare c = refl

pub returns-clause-waits : goal.returns-clause-waits
unfolding normal_lines normal_waiting unicode_width columns_of width_of
returns-clause-waits c = refl
