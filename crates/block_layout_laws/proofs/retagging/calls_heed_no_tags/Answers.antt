use Rattle.block_layout_laws.proofs.LaidRetagged.{add_block_retagged, add_border_retagged, add_row_retagged}
use Rattle.block_layout_laws.proofs.LaidRetagged.{add_text_retagged, break_line_retagged, empty_line_retagged}
use Rattle.block_layout_laws.proofs.LaidRetagged.{finished_lines_retagged, flush_retagged, horizontal_retagged}
use Rattle.block_layout_laws.proofs.LaidRetagged.{mark_retagged, nothing_retagged, slashes_retagged}
use Rattle.block_layout_laws.proofs.LaidRetagged.{start_awaited_retagged, start_block_retagged, start_table_retagged}
use Rattle.block_layout_laws.proofs.LaidRetagged.{text_lines_retagged}
use Rattle.block_layout_laws.proofs.retagging.calls_heed_no_tags.Goals as goal

pub returns-clause-flush : goal.returns-clause-flush
returns-clause-flush g c = λ f m tag b. flush_retagged f m tag b

pub returns-clause-add_text_lines : goal.returns-clause-add_text_lines
returns-clause-add_text_lines g c = λ f m tag fill lines b. text_lines_retagged f m tag fill lines b

pub returns-clause-add_empty_line : goal.returns-clause-add_empty_line
returns-clause-add_empty_line g c = λ f m tag b. empty_line_retagged f m tag b

pub returns-clause-start_block : goal.returns-clause-start_block
returns-clause-start_block g c = λ f m tag b. start_block_retagged f m tag b

pub returns-clause-start_table : goal.returns-clause-start_table
returns-clause-start_table g c = λ f m tag b. start_table_retagged f m tag b

pub returns-clause-start_awaited : goal.returns-clause-start_awaited
returns-clause-start_awaited g c = λ f m tag b. start_awaited_retagged f m tag b

pub returns-clause-add_text : goal.returns-clause-add_text
returns-clause-add_text g c = λ f m tag mode cs main further b. add_text_retagged f m tag mode cs main further b

pub returns-clause-mark : goal.returns-clause-mark
returns-clause-mark g c = λ f m tag name b. mark_retagged f m tag name b

pub returns-clause-break_line : goal.returns-clause-break_line
returns-clause-break_line g c = λ f m tag b. break_line_retagged f m tag b

pub returns-clause-nothing : goal.returns-clause-nothing
returns-clause-nothing g c = λ f b. nothing_retagged f b

pub returns-clause-add_border : goal.returns-clause-add_border
returns-clause-add_border g c = λ f new b. add_border_retagged f new b

pub returns-clause-add_horizontal_border : goal.returns-clause-add_horizontal_border
returns-clause-add_horizontal_border g c = λ f m tag width b. horizontal_retagged f m tag width b

pub returns-clause-add_slashes : goal.returns-clause-add_slashes
returns-clause-add_slashes g c = λ f width tag b. slashes_retagged f width tag b

pub returns-clause-add_block : goal.returns-clause-add_block
returns-clause-add_block g c = λ f other m tag first following lines b.
    add_block_retagged f other m tag first following lines b

pub returns-clause-add_row : goal.returns-clause-add_row
returns-clause-add_row g c = λ f m tag draws collapse cells b. add_row_retagged f m tag draws collapse cells b

pub returns-clause-finished_lines : goal.returns-clause-finished_lines
returns-clause-finished_lines g c = λ f m tag b. finished_lines_retagged f m tag b
