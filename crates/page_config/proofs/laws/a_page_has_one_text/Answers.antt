use Rattle.block_renderer.specs.Seen.{marking}
use Rattle.page_config.proofs.OneAnswer.{one_text}
use Rattle.page_config.proofs.laws.a_page_has_one_text.Goals as goal

pub returns : goal.returns
returns g c = λ tag. one_text (marking g.D.TextDecorator.view tag) g.D.Annotation.EqualCopy.seen
    g.D.TextDecorator.view.closes c.a_page_has_one_tree_of_bytes.ensures.forest
