use Rattle.block_renderer.specs.Seen.{marking}
use Rattle.html_render_tree.proofs.TextWidths.{printed_within}
use Rattle.html_render_tree.proofs.laws.texts_keep_the_width.Goals as goal

pub returns : goal.returns
returns g c = λ tag. printed_within (marking g.D.TextDecorator.view tag) g.D.Annotation.EqualCopy.seen
    g.D.TextDecorator.view.closes (c.pages_keep_the_width.ensures tag)
