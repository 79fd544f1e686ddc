use Rattle.std.specs.Prelude.{[]}
use Rattle.block_renderer.specs.Seen.{marking}
use Rattle.block_trait.specs.Renderers.{Marking, new_sub}
use Rattle.text_block_renderer.specs.Parts.{whole_page}
use Rattle.html_render_tree.proofs.PageLemmas.{PageWidths, lines_within}
use Rattle.html_render_tree.proofs.laws.pages_keep_the_width.Goals as goal

pub returns : goal.returns
returns g c = λ tag setting width values lines steady fits off wraps wide page.
    let m : Marking g.D.TextDecorator.Held g.D.Annotation.EqualCopy.Seen = marking g.D.TextDecorator.view tag in
    let laws : PageWidths m setting width values = record {
      stays = λ p is. c.values_keep_the_width.ensures m _ values (whole_page (new_sub width setting.options setting.held
          [])) p steady fits (c.parts_keep_the_width.ensures.whole (new_sub width setting.options setting.held [])
          (c.renderers_keep_the_width.ensures.new width setting.options setting.held [] off)) is;
      does = λ call s new kept fit is. c.renderers_keep_the_width.ensures.step m call s new kept fit is;
      footnotes = λ notes s new kept wrapped two is. c.renderers_keep_the_width.ensures.footnotes notes s new kept
          wrapped two is;
      lines = λ s blocks kept is. c.renderers_keep_the_width.ensures.lines s blocks kept is;
    } in
    lines_within m g.D.Annotation.EqualCopy.seen g.D.TextDecorator.view.closes setting width values lines
    laws wraps wide page
