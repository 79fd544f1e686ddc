use Rattle.std.proofs.Common.{refl}
use Rattle.block_layout_laws.proofs.HangingLemmas.{awaited_hangs, block_hangs, border_hangs, break_hangs}
use Rattle.block_layout_laws.proofs.HangingLemmas.{empty_line_hangs, flush_hangs, other_hangs, row_hangs, table_hangs}
use Rattle.block_layout_laws.proofs.HangingLemmas.{text_hangs}
use Rattle.block_layout_laws.proofs.laws.cells_hang_until_a_row.Goals as goal

pub returns : goal.returns
returns g c =
    record {
      flush = λ m tag b. flush_hangs m tag b;
      add_empty_line = λ m tag b. empty_line_hangs m tag b;
      start_block = λ m tag b. block_hangs m tag b;
      start_table = λ m tag b. table_hangs m tag b;
      start_awaited = λ m tag b. awaited_hangs m tag b;
      end_block = λ b. refl;
      mark = λ m tag name b. refl;
      add_text = λ m tag mode cs main further b. text_hangs m tag mode cs main further b;
      break_line = λ m tag b. break_hangs m tag b;
      add_horizontal_border = λ m tag width b. border_hangs m tag width b;
      add_block = λ other m tag first following lines b. other_hangs other m tag first following lines b;
      add_row = λ m tag draws collapse cells b flushed new is row.
          row_hangs m tag draws collapse cells b flushed new is row;
    }
