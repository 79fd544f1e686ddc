use Rattle.table_grid.proofs.TheGridLemmas.{have_grid}
use Rattle.table_grid.proofs.grid_laws.cells_have_a_grid.Goals as goal

pub returns : goal.returns
returns c = λ cells rows. have_grid c.cells_have_places.ensures.places c.cells_have_places.ensures.gaps cells rows
