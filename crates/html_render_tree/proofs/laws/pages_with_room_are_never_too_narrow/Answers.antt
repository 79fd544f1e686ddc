use Rattle.std.specs.Prelude.{[]}
use Rattle.block_renderer.specs.Seen.{marking}
use Rattle.block_trait.specs.Calls.{starts_block}
use Rattle.block_trait.specs.Renderers.{Marking, new_sub}
use Rattle.text_block_renderer.specs.Parts.{whole_page}
use Rattle.html_render_tree.proofs.PageLemmas.{PageRooms, never_narrow}
use Rattle.html_render_tree.proofs.laws.pages_with_room_are_never_too_narrow.Goals as goal

pub returns : goal.returns
returns g c = λ tag setting width values on page.
    let m : Marking g.D.TextDecorator.Held g.D.Annotation.EqualCopy.Seen = marking g.D.TextDecorator.view tag in
    let laws : PageRooms m setting width values = record {
      laid = c.values_with_room_are_laid.ensures m _ values (whole_page (new_sub width setting.options setting.held []))
          (c.parts_with_room_never_refuse.ensures.whole (new_sub width setting.options setting.held [])
          (c.renderers_with_room_never_refuse.ensures.new width setting.options setting.held [] on));
      starts = λ s room. c.renderers_with_room_never_refuse.ensures.step m starts_block s room tt;
      footnotes = λ notes s room. c.renderers_with_room_never_refuse.ensures.footnotes notes s room;
      lines = λ s room. c.renderers_with_room_never_refuse.ensures.lines s room;
    } in
    never_narrow m g.D.Annotation.EqualCopy.seen g.D.TextDecorator.view.closes setting width values laws page
