use Rattle.block_layout_laws.proofs.OverflowLemmas.{adds_block, adds_empty_line, adds_horizontal, adds_row, adds_text}
use Rattle.block_layout_laws.proofs.OverflowLemmas.{breaks_line, finishes, flushes, marks, starts_awaited, starts_block}
use Rattle.block_layout_laws.proofs.OverflowLemmas.{starts_table, texts_allow}
use Rattle.block_layout_laws.proofs.laws.overflow_never_refuses.Goals as goal

pub returns-clause-nothing : goal.returns-clause-nothing
returns-clause-nothing g c = λ m allows. record { measure = allows; running = tt }

pub returns-clause-flush : goal.returns-clause-flush
returns-clause-flush g c = λ m tag b h. flushes m tag b h

pub returns-clause-add_text_lines : goal.returns-clause-add_text_lines
returns-clause-add_text_lines g c = λ m tag fill lines b h. texts_allow m tag fill lines b h

pub returns-clause-add_empty_line : goal.returns-clause-add_empty_line
returns-clause-add_empty_line g c = λ m tag b h. adds_empty_line m tag b h

pub returns-clause-start_block : goal.returns-clause-start_block
returns-clause-start_block g c = λ m tag b h. starts_block m tag b h

pub returns-clause-start_table : goal.returns-clause-start_table
returns-clause-start_table g c = λ m tag b h. starts_table m tag b h

pub returns-clause-end_block : goal.returns-clause-end_block
returns-clause-end_block g c = λ m b h. record { measure = h.measure; running = h.running }

pub returns-clause-start_awaited : goal.returns-clause-start_awaited
returns-clause-start_awaited g c = λ m tag b h. starts_awaited m tag b h

pub returns-clause-add_text : goal.returns-clause-add_text
returns-clause-add_text g c = λ m tag mode cs main further b h. adds_text m tag mode cs main further b h

pub returns-clause-mark : goal.returns-clause-mark
returns-clause-mark g c = λ m tag name b h. marks m tag name b h

pub returns-clause-break_line : goal.returns-clause-break_line
returns-clause-break_line g c = λ m tag b h. breaks_line m tag b h

pub returns-clause-add_horizontal_border : goal.returns-clause-add_horizontal_border
returns-clause-add_horizontal_border g c = λ m tag width b h. adds_horizontal m tag width b h

pub returns-clause-add_border : goal.returns-clause-add_border
returns-clause-add_border g c = λ m new b h. record { measure = h.measure; running = h.running }

pub returns-clause-add_slashes : goal.returns-clause-add_slashes
returns-clause-add_slashes g c = λ m tag width b h. record { measure = h.measure; running = h.running }

pub returns-clause-add_block : goal.returns-clause-add_block
returns-clause-add_block g c = λ other m tag first following lines b h. adds_block other m tag first following lines b h

pub returns-clause-add_row : goal.returns-clause-add_row
returns-clause-add_row g c = λ m tag draws collapse cells b h. adds_row m tag draws collapse cells b h

pub returns-clause-finished_lines : goal.returns-clause-finished_lines
returns-clause-finished_lines g c = λ m tag b h. finishes m tag b h
