use Rattle.render_sizes.specs.Extents.{in_rows, measured}
use Rattle.render_sizes.proofs.SoundLemmas.{sized_columns}
use Rattle.render_sizes.proofs.laws.tables_are_sound.Goals as goal

pub returns-clause-rows : goal.returns-clause-rows
returns-clause-rows c m values =
    let cells = c.measured_is_sound.ensures.cells m values in
    c.rows_across_are_whole.ensures (in_rows (measured m values)) (measured m values).rows cells.rows cells.some
    cells.tall cells.begun cells.within

pub returns-clause-sized : goal.returns-clause-sized
returns-clause-sized c m values =
    sized_columns c.columns_of_a_grid_are_sized.ensures (measured m values) (c.measured_is_sound.ensures.sound m values)
