use Rattle.table_grid.proofs.AllGapLemmas.{are_gaps}
use Rattle.table_grid.proofs.PlacingLemmas.{are_placed}
use Rattle.table_grid.proofs.place_laws.cells_have_places.Goals as goal

pub returns-clause-places : goal.returns-clause-places
returns-clause-places c = λ cells. are_placed cells

pub returns-clause-gaps : goal.returns-clause-gaps
returns-clause-gaps c = λ placed rows. are_gaps placed rows
