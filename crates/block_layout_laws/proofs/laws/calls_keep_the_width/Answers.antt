use Rattle.std.specs.Prelude.{◌≤◌, All, ⊤}
use Rattle.std.proofs.lemmas.Option.{MatchOption-at_some}
use Rattle.text_lines.specs.Tagged.{line_columns}
use Rattle.text_borders.specs.Lines.{line_shown}
use Rattle.block_layout_laws.specs.LayoutLaws.{IsWithin}
use Rattle.block_layout_laws.proofs.WidthLemmas.{TextLaws, awaited_started, block_ended, block_started}
use Rattle.block_layout_laws.proofs.WidthLemmas.{empty_line_added, flushed, line_broken, lines_added, marked}
use Rattle.block_layout_laws.proofs.WidthLemmas.{nothing_within, table_started, text_added}
use Rattle.block_layout_laws.proofs.RowWidths.{BorderLaws, RowLaws, block_added, border_added, horizontal_added}
use Rattle.block_layout_laws.proofs.RowWidths.{lines_finished, row_of_flushed, slashes_added}
use Rattle.block_layout_laws.proofs.laws.calls_keep_the_width.Goals as goal

pub returns : goal.returns
returns g c =
    let laws : TextLaws g.T.EqualCopy.Seen = record {
      empty = λ width padding. c.blocks_keep_the_width.ensures.empty width padding;
      added = λ width mode cs main further b new h is.
          c.blocks_keep_the_width.ensures.added width mode cs main further b new h is;
      marked = λ width name b h. c.blocks_keep_the_width.ensures.marked width name b h;
      ended = λ width b new h is. c.blocks_keep_the_width.ensures.ended width b new h is;
      lines = λ width b lines h is. c.blocks_keep_the_width.ensures.lines width b lines h is;
      filled = λ width tag line fits. c.filled_lines_have_the_width.ensures width tag line fits;
    } in
    let borders : BorderLaws g.T.EqualCopy.Seen = record {
      shown = λ b sound. c.shown_borders_have_their_width.ensures b sound;
      filled_width = λ width b. c.filled_borders_stay_sound.ensures.width width b;
      filled_sound = λ width b sound. c.filled_borders_stay_sound.ensures.sound width b sound;
    } in
    let rows : RowLaws g.T.EqualCopy.Seen = record {
      lines = λ draws collapse tag above cells hanging all hangs.
          c.rows_keep_their_width.ensures.lines draws collapse tag above cells hanging all hangs;
      below_width = λ draws collapse tag above cells hanging all hangs.
          c.rows_keep_their_width.ensures.below_width draws collapse tag above cells hanging all hangs;
      below_sound = λ draws collapse tag above cells hanging all hangs.
          c.rows_keep_their_width.ensures.below_sound draws collapse tag above cells hanging all hangs;
      above_width = λ draws collapse tag above cells hanging all hangs.
          c.rows_keep_their_width.ensures.above_width draws collapse tag above cells hanging all hangs;
      above_sound = λ draws collapse tag above cells hanging all hangs sound.
          c.rows_keep_their_width.ensures.above_sound draws collapse tag above cells hanging all hangs sound;
      hanging = λ draws collapse tag above cells hanging all hangs.
          c.rows_keep_their_width.ensures.hanging draws collapse tag above cells hanging all hangs;
    } in
    record {
      nothing = λ m. nothing_within m;
      flush = λ m tag b new kept h is. MatchOption-at_some ⊤ (IsWithin m) new is (flushed laws m tag b kept h);
      add_text_lines = λ m tag fill lines b kept h fit. lines_added laws m tag fill lines b kept fit h;
      add_empty_line = λ m tag b new kept h is.
          MatchOption-at_some ⊤ (IsWithin m) new is (empty_line_added laws m tag b kept h);
      start_block = λ m tag b new kept h is.
          MatchOption-at_some ⊤ (IsWithin m) new is (block_started laws m tag b kept h);
      start_table = λ m tag b new kept h is.
          MatchOption-at_some ⊤ (IsWithin m) new is (table_started laws m tag b kept h);
      end_block = λ m b h. block_ended m b h;
      start_awaited = λ m tag b new kept h is.
          MatchOption-at_some ⊤ (IsWithin m) new is (awaited_started laws m tag b kept h);
      add_text = λ m tag mode cs main further b new kept h is.
          MatchOption-at_some ⊤ (IsWithin m) new is (text_added laws m tag mode cs main further b kept h);
      mark = λ m tag name b kept h. marked laws m tag name b kept h;
      break_line = λ m tag b new kept h is.
          MatchOption-at_some ⊤ (IsWithin m) new is (line_broken laws m tag b kept h);
      add_horizontal_border = λ m tag width b new kept h narrow is.
          MatchOption-at_some ⊤ (IsWithin m) new is (horizontal_added laws m tag width b narrow kept h);
      add_border = λ m new b h fits. border_added m new b fits h;
      add_slashes = λ m tag width b h narrow. slashes_added m tag width b narrow h;
      add_block = λ other m tag first following lines b h fit here trailing.
          block_added laws borders other m tag first following lines b here trailing fit h;
      add_row = λ m tag draws collapse cells b flushed new kept h all is wide added.
          row_of_flushed laws rows m tag draws collapse cells b flushed new kept h all is wide added;
      finished_lines = λ m tag b lines kept h is.
          MatchOption-at_some ⊤ (λ lines. All (λ l. line_columns (line_shown l) ≤ m.width) lines) lines is
          (lines_finished laws borders m tag b kept h);
    }
