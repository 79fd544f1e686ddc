use Rattle.text_borders.proofs.SeatLemmas.{seated_row_width, row_seats}
use Rattle.text_borders.proofs.laws.cells_keep_their_places.Goals as goal

pub returns-clause-width : goal.returns-clause-width
returns-clause-width g c = λ collapse tag above cells hanging are. seated_row_width collapse tag above cells hanging are

pub returns-clause-seats : goal.returns-clause-seats
returns-clause-seats g c = λ draws collapse tag above cells hanging. row_seats draws collapse tag above cells hanging
