use Rattle.table_grid.proofs.LawLemmas.{after_cells}
use Rattle.table_grid.proofs.place_laws.cells_begin_after_cells.Goals as goal

pub returns : goal.returns
returns c = λ cells placed some tall are k column lt e vacant. after_cells cells placed some tall are k column lt e
    vacant
