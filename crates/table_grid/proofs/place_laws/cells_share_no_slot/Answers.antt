use Rattle.table_grid.proofs.LawLemmas.{no_slot_twice}
use Rattle.table_grid.proofs.place_laws.cells_share_no_slot.Goals as goal

pub returns : goal.returns
returns c = λ cells placed rows are j k row column lt k_lt one other takes too.
    no_slot_twice cells placed rows are j k row column lt k_lt one other takes too
