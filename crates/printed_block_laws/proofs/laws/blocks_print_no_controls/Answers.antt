use Rattle.std.specs.Prelude.{All, ⊤}
use Rattle.std.proofs.lemmas.Option.{MatchOption-at_some}
use Rattle.text_borders.specs.Lines.{line_shown}
use Rattle.printed_block_laws.specs.Printed.{ArePrinted, IsPrintedBlock}
use Rattle.printed_block_laws.proofs.LaidPrinted.{awaited_started, block_ended, block_started, empty_line_added, flushed}
use Rattle.printed_block_laws.proofs.LaidPrinted.{line_broken, lines_added, marked, nothing_printed, table_started}
use Rattle.printed_block_laws.proofs.LaidPrinted.{text_added}
use Rattle.printed_block_laws.proofs.RowsPrinted.{block_added, border_added, horizontal_added, lines_finished}
use Rattle.printed_block_laws.proofs.RowsPrinted.{row_of_flushed, slashes_added}
use Rattle.printed_block_laws.proofs.laws.blocks_print_no_controls.Goals as goal

pub returns : goal.returns
returns g c = record {
  nothing = nothing_printed;
  flush = λ m tag b new h is. MatchOption-at_some ⊤ IsPrintedBlock new is (flushed m tag b h);
  add_text_lines = λ m tag fill lines b h all. lines_added m tag fill lines b all h;
  add_empty_line = λ m tag b new h is. MatchOption-at_some ⊤ IsPrintedBlock new is (empty_line_added m tag b h);
  start_block = λ m tag b new h is. MatchOption-at_some ⊤ IsPrintedBlock new is (block_started m tag b h);
  start_table = λ m tag b new h is. MatchOption-at_some ⊤ IsPrintedBlock new is (table_started m tag b h);
  end_block = λ b h. block_ended b h;
  start_awaited = λ m tag b new h is. MatchOption-at_some ⊤ IsPrintedBlock new is (awaited_started m tag b h);
  add_text = λ m tag mode cs main further b new h is.
      MatchOption-at_some ⊤ IsPrintedBlock new is (text_added m tag mode cs main further b h);
  mark = λ m tag name b h. marked m tag name b h;
  break_line = λ m tag b new h is. MatchOption-at_some ⊤ IsPrintedBlock new is (line_broken m tag b h);
  add_horizontal_border = λ m tag width b new h is.
      MatchOption-at_some ⊤ IsPrintedBlock new is (horizontal_added m tag width b h);
  add_border = λ new b h here. border_added new b here h;
  add_slashes = λ tag width b h. slashes_added tag width b h;
  add_block = λ other m tag first following lines b h all before trailing.
      block_added other m tag first following lines b before trailing all h;
  add_row = λ m tag draws collapse cells b new h all is.
      MatchOption-at_some ⊤ IsPrintedBlock new is (row_of_flushed m tag draws collapse cells b all h);
  finished_lines = λ m tag b lines h is.
      MatchOption-at_some ⊤ (λ lines. All (λ l. ArePrinted (line_shown l)) lines) lines is (lines_finished m tag b h);
}
