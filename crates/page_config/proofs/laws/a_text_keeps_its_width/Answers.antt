use Rattle.block_renderer.specs.Seen.{marking}
use Rattle.page_config.proofs.WidthLemmas.{text_within}
use Rattle.page_config.proofs.laws.a_text_keeps_its_width.Goals as goal

pub returns : goal.returns
returns g c = λ tag. text_within (marking g.D.TextDecorator.view tag) g.D.Annotation.EqualCopy.seen
    g.D.TextDecorator.view.closes c.pages_are_numbered.ensures (c.pages_keep_the_width.ensures tag)
