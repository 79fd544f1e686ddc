use Rattle.block_renderer.specs.Seen.{marking}
use Rattle.page_config.proofs.WidthLemmas.{within_width}
use Rattle.page_config.proofs.laws.a_page_keeps_its_width.Goals as goal

pub returns : goal.returns
returns g c = λ tag. within_width (marking g.D.TextDecorator.view tag) g.D.Annotation.EqualCopy.seen
    g.D.TextDecorator.view.closes c.pages_are_numbered.ensures (c.pages_keep_the_width.ensures tag)
