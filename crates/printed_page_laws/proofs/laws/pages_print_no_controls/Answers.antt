use Rattle.std.specs.Prelude.{List}
use Rattle.block_renderer.specs.Seen.{marking}
use Rattle.block_trait.specs.Renderers.{Marking}
use Rattle.printed_page_laws.proofs.PagesPrinted.{lines_printed}
use Rattle.printed_page_laws.proofs.BlockWords.{KeepsPrinted}
use Rattle.printed_page_laws.proofs.StepsPrinted.{PrintsSteps}
use Rattle.printed_page_laws.proofs.laws.pages_print_no_controls.Goals as goal

pub returns : goal.returns
returns g c = λ tag setting width values lines prefixes notes on page.
    let m : Marking g.D.TextDecorator.Held g.D.Annotation.EqualCopy.Seen = marking g.D.TextDecorator.view tag in
    let law = c.blocks_print_no_controls.ensures in
    let blocks : KeepsPrinted (List g.D.Annotation.EqualCopy.Seen) = record {
      nothing = law.nothing;
      flushed = λ m tag b new h is. law.flush m tag b new h is;
      lines_taken = λ m tag fill lines b h all. law.add_text_lines m tag fill lines b h all;
      empty_line = λ m tag b new h is. law.add_empty_line m tag b new h is;
      block_started = λ m tag b new h is. law.start_block m tag b new h is;
      table_started = λ m tag b new h is. law.start_table m tag b new h is;
      block_ended = λ b h. law.end_block b h;
      awaited = λ m tag b new h is. law.start_awaited m tag b new h is;
      text_taken = λ m tag mode cs main further b new h is. law.add_text m tag mode cs main further b new h is;
      marked = λ m tag name b h. law.mark m tag name b h;
      line_broken = λ m tag b new h is. law.break_line m tag b new h is;
      border_drawn = λ m tag width b new h is. law.add_horizontal_border m tag width b new h is;
      border_taken = λ new b h none. law.add_border new b h none;
      slashes_taken = λ tag width b h. law.add_slashes tag width b h;
      block_taken = λ other m tag first following lines b h all before trailing.
          law.add_block other m tag first following lines b h all before trailing;
      row_taken = λ m tag draws collapse cells b new h all is. law.add_row m tag draws collapse cells b new h all is;
      lines_given = λ m tag b lines h is. law.finished_lines m tag b lines h is;
    } in
    let laws : PrintsSteps m = record { blocks = blocks; prefixes = prefixes } in
    lines_printed m g.D.Annotation.EqualCopy.seen g.D.TextDecorator.view.closes setting width values lines laws
    (λ target. c.printable_targets_lose_nothing.ensures.none target) notes on page
