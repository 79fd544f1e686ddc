use Rattle.std.proofs.lemmas.List.Elements.{All-nil}
use Rattle.text_decorators.specs.Marks.{link_start}
use Rattle.block_trait.specs.Calls.{adds_text, starts_link, ends_link}
use Rattle.block_laws.specs.RendererLaws.{HasRoom}
use Rattle.text_block_renderer.proofs.LinkLaws.{LinkRooms, begins_with_room, end_never_refused, ends_with_room}
use Rattle.text_block_renderer.proofs.LinkLaws.{link_never_refused}
use Rattle.text_block_renderer.proofs.laws.parts_with_room_never_refuse.Goals as goal

pub returns : goal.returns
returns g c =
    let laws : LinkRooms g.D.TextDecorator.Held g.D.Annotation.EqualCopy.Seen = record {
      begins_link = λ m target s room.
          c.renderers_with_room_never_refuse.ensures.step m (starts_link (link_start target)) s room tt;
      ends_link = λ m s room. c.renderers_with_room_never_refuse.ensures.step m ends_link s room tt;
      adds_text = λ m cs s room. c.renderers_with_room_never_refuse.ensures.step m (adds_text cs) s room tt;
    } in
    record {
      whole = λ s room. record { current = room; below = All-nil HasRoom };
      push = λ s p room all. begins_with_room s p room all;
      pop = λ s p all. ends_with_room s p all;
      exchange = λ s p room all. record { current = room; below = all.below };
      start_link = λ m target p all. link_never_refused laws m target p all;
      end_link = λ m p all. end_never_refused laws m p all;
    }
