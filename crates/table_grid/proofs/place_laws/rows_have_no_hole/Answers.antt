use Rattle.table_grid.proofs.LawLemmas.{row_without_holes}
use Rattle.table_grid.proofs.place_laws.rows_have_no_hole.Goals as goal

pub returns : goal.returns
returns c = λ cells placed rows some tall are k row column lt stands e.
    row_without_holes cells placed rows some tall are k row column lt stands e
