use Rattle.std.proofs.Common.{[], ◌∷◌, refl}
use Rattle.table_grid.specs.PlaceRowWords.{at}
use Rattle.table_grid.proofs.CheckLemmas.{are_placed, stand, fits_at, none_before, is_clear}
use Rattle.table_grid.proofs.place_rows.beside_a_row_span.Goals as goal

pub returns : goal.returns
unfolding stand fits_at none_before is_clear
returns c = are_placed (at 0 0 1 2 ∷ at 1 0 1 1 ∷ at 1 1 1 1 ∷ []) refl
