use Rattle.table_grid.proofs.OnePlaceLemmas.{one_placing, one_list_of_gaps}
use Rattle.table_grid.proofs.place_laws.cells_have_one_place.Goals as goal

pub returns-clause-places : goal.returns-clause-places
returns-clause-places c = λ cells first second one other. one_placing cells first second one other

pub returns-clause-gaps : goal.returns-clause-gaps
returns-clause-gaps c = λ placed first second one other. one_list_of_gaps placed first second one other
