use Rattle.render_sizes.specs.Extents.{measured}
use Rattle.render_sizes.proofs.SoundLemmas.{all_sound, table_cells}
use Rattle.render_sizes.proofs.laws.measured_is_sound.Goals as goal

pub returns-clause-sound : goal.returns-clause-sound
returns-clause-sound c = all_sound c.tables_ask_for_their_least.ensures c.columns_of_a_grid_are_sized.ensures

pub returns-clause-cells : goal.returns-clause-cells
returns-clause-cells c m values =
    table_cells (measured m values)
    (all_sound c.tables_ask_for_their_least.ensures c.columns_of_a_grid_are_sized.ensures m values)
