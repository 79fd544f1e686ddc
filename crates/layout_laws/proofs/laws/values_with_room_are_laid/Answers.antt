use Rattle.layout_laws.proofs.RoomLemmas.{RoomLaws}
use Rattle.layout_laws.proofs.TableRoomLemmas.{parts_laid}
use Rattle.layout_laws.proofs.laws.values_with_room_are_laid.Goals as goal

pub returns : goal.returns
returns g c = λ m w values p room.
    let laws : RoomLaws m = record {
      does = λ call s has taken. c.renderers_with_room_never_refuse.ensures.step m call s has taken;
      part = λ width s has. c.renderers_with_room_never_refuse.ensures.new width s.options (m.sub s.held) s.annotations
          has.measure;
      trailing = λ prefix least s has. c.a_prefix_and_its_room_are_the_width.ensures.beyond prefix least s has.measure;
      link_begins = λ target q has. c.parts_with_room_never_refuse.ensures.start_link m target q has;
      link_ends = λ q has. c.parts_with_room_never_refuse.ensures.end_link m q has;
    } in
    parts_laid laws w values p room
