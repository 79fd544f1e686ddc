use Rattle.std.specs.Prelude.{List}
use Rattle.block_laws.proofs.RoomLemmas.{RoomLaws, adds_notes, step_given, all_given}
use Rattle.block_laws.proofs.laws.renderers_with_room_never_refuse.Goals as goal

pub returns : goal.returns
returns g c =
    let laws : RoomLaws (List g.D.Annotation.EqualCopy.Seen) = record {
      flushes = λ m tag b h. c.overflow_never_refuses.ensures.flush m tag b h;
      takes_lines = λ m tag fill lines b h. c.overflow_never_refuses.ensures.add_text_lines m tag fill lines b h;
      adds_line = λ m tag b h. c.overflow_never_refuses.ensures.add_empty_line m tag b h;
      begins_block = λ m tag b h. c.overflow_never_refuses.ensures.start_block m tag b h;
      begins_table = λ m tag b h. c.overflow_never_refuses.ensures.start_table m tag b h;
      finishes_block = λ m b h. c.overflow_never_refuses.ensures.end_block m b h;
      begins_awaited = λ m tag b h. c.overflow_never_refuses.ensures.start_awaited m tag b h;
      takes_text = λ m tag mode cs main further b h.
          c.overflow_never_refuses.ensures.add_text m tag mode cs main further b h;
      marks = λ m tag name b h. c.overflow_never_refuses.ensures.mark m tag name b h;
      line_breaks = λ m tag b h. c.overflow_never_refuses.ensures.break_line m tag b h;
      draws_border = λ m tag width b h. c.overflow_never_refuses.ensures.add_horizontal_border m tag width b h;
      takes_border = λ m new b h. c.overflow_never_refuses.ensures.add_border m new b h;
      takes_slashes = λ m tag width b h. c.overflow_never_refuses.ensures.add_slashes m tag width b h;
      takes_block = λ other m tag first following lines b h.
          c.overflow_never_refuses.ensures.add_block other m tag first following lines b h;
      takes_row = λ m tag draws collapse cells b h.
          c.overflow_never_refuses.ensures.add_row m tag draws collapse cells b h;
    } in
    record {
      new = λ width options held annotations allows. record { measure = allows; running = tt };
      step = λ m call s room taken. step_given laws m call s room taken;
      calls = λ m calls s room all. all_given laws m calls s room all;
      footnotes = λ lines s room. adds_notes laws lines s room;
      lines = λ s room. c.overflow_never_refuses.ensures.finished_lines _ s.annotations s.laid room;
    }
