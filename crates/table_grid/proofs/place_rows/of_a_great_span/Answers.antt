use Rattle.std.proofs.Common.{[], ◌∷◌, refl}
use Rattle.table_grid.specs.PlaceRowWords.{at}
use Rattle.table_grid.proofs.CheckLemmas.{are_placed, stand, fits_at, none_before, is_clear}
use Rattle.table_grid.proofs.place_rows.of_a_great_span.Goals as goal

pub returns : goal.returns
unfolding stand fits_at none_before is_clear
returns c = are_placed (at 0 0 1000000000 999999999 ∷ []) refl
