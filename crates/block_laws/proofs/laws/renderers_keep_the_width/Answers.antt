use Rattle.std.specs.Prelude.{List, ⊤}
use Rattle.std.proofs.lemmas.Option.{MatchOption-at_some}
use Rattle.block_trait.specs.Renderers.{measure_of}
use Rattle.block_laws.specs.RendererLaws.{StaysWithin}
use Rattle.block_laws.proofs.KeptLemmas.{WidthLaws, kept_measure, notes_added, step_stays, all_stay}
use Rattle.block_laws.proofs.laws.renderers_keep_the_width.Goals as goal

pub returns : goal.returns
returns g c =
    let laws : WidthLaws (List g.D.Annotation.EqualCopy.Seen) = record {
      flushed = λ m tag b new kept h is. c.calls_keep_the_width.ensures.flush m tag b new kept h is;
      lines_taken = λ m tag fill lines b kept h fit.
          c.calls_keep_the_width.ensures.add_text_lines m tag fill lines b kept h fit;
      empty_line = λ m tag b new kept h is. c.calls_keep_the_width.ensures.add_empty_line m tag b new kept h is;
      block_started = λ m tag b new kept h is. c.calls_keep_the_width.ensures.start_block m tag b new kept h is;
      table_started = λ m tag b new kept h is. c.calls_keep_the_width.ensures.start_table m tag b new kept h is;
      block_ended = λ m b h. c.calls_keep_the_width.ensures.end_block m b h;
      awaited = λ m tag b new kept h is. c.calls_keep_the_width.ensures.start_awaited m tag b new kept h is;
      text_taken = λ m tag mode cs main further b new kept h is.
          c.calls_keep_the_width.ensures.add_text m tag mode cs main further b new kept h is;
      marked = λ m tag name b kept h. c.calls_keep_the_width.ensures.mark m tag name b kept h;
      line_broken = λ m tag b new kept h is. c.calls_keep_the_width.ensures.break_line m tag b new kept h is;
      border_drawn = λ m tag width b new kept h narrow is.
          c.calls_keep_the_width.ensures.add_horizontal_border m tag width b new kept h narrow is;
      border_taken = λ m new b h fits. c.calls_keep_the_width.ensures.add_border m new b h fits;
      slashes_taken = λ m tag width b h narrow. c.calls_keep_the_width.ensures.add_slashes m tag width b h narrow;
      block_taken = λ other m tag first following lines b h fit here trailing.
          c.calls_keep_the_width.ensures.add_block other m tag first following lines b h fit here trailing;
      row_taken = λ m tag draws collapse cells b flushed new kept h all is narrow added.
          c.calls_keep_the_width.ensures.add_row m tag draws collapse cells b flushed new kept h all is narrow added;
    } in
    record {
      new = λ width options held annotations none. (none, c.calls_keep_the_width.ensures.nothing _);
      step = λ m call s new kept fits is.
          MatchOption-at_some ⊤ (StaysWithin s) new is (step_stays laws m call s kept fits);
      calls = λ m calls s new kept fit is.
          MatchOption-at_some ⊤ (StaysWithin s) new is (all_stay laws m calls s kept fit);
      footnotes = λ lines s new kept wraps wide is.
          MatchOption-at_some ⊤ (StaysWithin s) new is
          (notes_added laws (λ width items least. c.footnotes_keep_the_width.ensures width items least) lines s kept
          wraps wide);
      lines = λ s lines kept is.
          c.calls_keep_the_width.ensures.finished_lines (measure_of s) s.annotations s.laid lines (kept_measure s kept)
          kept.1 is;
    }
