use Rattle.std.proofs.Common.{[], ◌∷◌, refl}
use Rattle.table_grid.specs.PlaceRowWords.{at}
use Rattle.table_grid.proofs.CheckLemmas.{are_placed, stand, fits_at, none_before, is_clear}
use Rattle.table_grid.proofs.place_rows.over_a_row_without_cells.Goals as goal

pub returns : goal.returns
unfolding stand fits_at none_before is_clear
returns c = are_placed (at 0 0 1 3 ∷ at 1 2 1 1 ∷ []) refl
