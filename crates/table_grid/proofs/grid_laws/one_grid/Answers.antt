use Rattle.table_grid.proofs.OneGridLemmas.{one_grid}
use Rattle.table_grid.proofs.grid_laws.one_grid.Goals as goal

pub returns : goal.returns
returns c = λ cells columns others grid grid_too gaps gaps_too one other.
    one_grid c.cells_have_one_place.ensures.places c.cells_have_one_place.ensures.gaps cells columns others grid
    grid_too gaps gaps_too one other
