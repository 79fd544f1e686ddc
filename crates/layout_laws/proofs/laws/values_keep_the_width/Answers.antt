use Rattle.std.specs.Prelude.{⊤}
use Rattle.std.proofs.lemmas.Option.{MatchOption-at_some}
use Rattle.text_block_renderer.specs.PartLaws.{PartsStayWithin}
use Rattle.layout_laws.proofs.ValueWidthLemmas.{parts_stay}
use Rattle.layout_laws.proofs.WidthLemmas.{WidthLaws}
use Rattle.layout_laws.proofs.laws.values_keep_the_width.Goals as goal

pub returns : goal.returns
returns g c = λ m w values p new steady fits kept is.
    let laws : WidthLaws m = record {
      does = λ call s t within fitting does. c.renderers_keep_the_width.ensures.step m call s t within fitting does;
      part = λ width s within. c.renderers_keep_the_width.ensures.new width s.options (m.sub s.held) s.annotations
          within.0;
      trailing = λ prefix least s within. c.a_prefix_and_its_room_are_the_width.ensures.within prefix least s within.0;
      link_begins = λ target q t within does. c.parts_keep_the_width.ensures.start_link m target q t within does;
      link_ends = λ q t within does. c.parts_keep_the_width.ensures.end_link m q t within does;
      steady = steady;
      seats = record {
        flush_hangs = λ n tag b. c.cells_hang_until_a_row.ensures.flush n tag b;
        table_hangs = λ n tag b. c.cells_hang_until_a_row.ensures.start_table n tag b;
        awaited_hangs = λ n tag b. c.cells_hang_until_a_row.ensures.start_awaited n tag b;
        text_hangs = λ n tag mode cs main further b.
            c.cells_hang_until_a_row.ensures.add_text n tag mode cs main further b;
        border_hangs = λ n tag width b. c.cells_hang_until_a_row.ensures.add_horizontal_border n tag width b;
        mark_hangs = λ n tag name b. c.cells_hang_until_a_row.ensures.mark n tag name b;
        row_hangs = λ n tag draws collapse cells b flushed row is does.
            c.cells_hang_until_a_row.ensures.add_row n tag draws collapse cells b flushed row is does;
        width = λ collapse tag above cells hanging seated.
            c.cells_keep_their_places.ensures.width collapse tag above cells hanging seated;
        seats = λ draws collapse tag above cells hanging.
            c.cells_keep_their_places.ensures.seats draws collapse tag above cells hanging;
      };
      across = λ columns width. c.widths_across_fit.ensures columns width;
      fitted = λ columns fits width are. c.fitted_widths_fit.ensures.fit columns fits width are;
      asked = λ n inside widths. c.tables_have_fits.ensures n inside widths;
      tables = λ n inside. c.tables_are_sound.ensures.rows n inside;
    } in
    MatchOption-at_some ⊤ (PartsStayWithin p) new is (parts_stay laws w values p fits kept)
