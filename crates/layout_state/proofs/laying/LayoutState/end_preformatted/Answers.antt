use Rattle.block_renderer.specs.Seen.{marking}
use Rattle.block_trait.specs.Calls.{ends_block, ends_preformat}
use Rattle.layout_state.specs.LayoutState.{says}
use Rattle.layout_state.proofs.StepLemmas.{turn_on}
use Rattle.layout_state.proofs.laying.LayoutState.end_preformatted.Goals as goal

pub returns-clause-done : goal.returns-clause-done
returns-clause-done g c = λ tag p. turn_on (says (marking g.D.TextDecorator.view tag) ends_preformat)
    (says (marking g.D.TextDecorator.view tag) ends_block) _ _ _
    (c.end_preformat.ensures.done tag p) (c.end_block.ensures.done tag p)
