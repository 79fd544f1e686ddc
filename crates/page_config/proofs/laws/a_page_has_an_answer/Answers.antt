use Rattle.block_renderer.specs.Seen.{marking}
use Rattle.page_config.proofs.SomeAnswer.{page_answered}
use Rattle.page_config.proofs.laws.a_page_has_an_answer.Goals as goal

pub returns : goal.returns
returns g c = λ tag. page_answered (marking g.D.TextDecorator.view tag) g.D.Annotation.EqualCopy.seen
    g.D.TextDecorator.view.closes c.a_page_has_a_tree_of_bytes.ensures
