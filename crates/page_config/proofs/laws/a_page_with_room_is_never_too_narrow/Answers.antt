use Rattle.block_renderer.specs.Seen.{marking}
use Rattle.page_config.proofs.WidthLemmas.{never_narrow}
use Rattle.page_config.proofs.laws.a_page_with_room_is_never_too_narrow.Goals as goal

pub returns : goal.returns
returns g c = λ tag. never_narrow (marking g.D.TextDecorator.view tag) g.D.Annotation.EqualCopy.seen
    g.D.TextDecorator.view.closes
    (c.pages_with_room_are_never_too_narrow.ensures tag)
