use Rattle.table_widths.proofs.LawLemmas.{table_whole}
use Rattle.table_widths.proofs.slot_laws.rows_across_are_whole.Goals as goal

pub returns : goal.returns
returns c = λ cells count rows some tall first last.
    table_whole c.cells_have_a_grid.ensures c.cells_share_no_slot.ensures c.rows_have_no_hole.ensures cells count rows
    some tall first
