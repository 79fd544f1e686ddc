use Rattle.block_renderer.specs.Seen.{marking}
use Rattle.block_trait.specs.Calls.{ends_colour, ends_mode}
use Rattle.text_decorators.specs.Marks.{background_end, colour_end}
use Rattle.layout_state.specs.Begins.{style_ends}
use Rattle.layout_state.specs.LayoutState.{for_some, in_turn, says}
use Rattle.layout_state.proofs.StepLemmas.{turn_on}
use Rattle.layout_state.proofs.laying.LayoutState.end_look.Goals as goal

pub returns-clause-done : goal.returns-clause-done
unfolding style_ends
returns-clause-done g c = λ tag p. turn_on (for_some c.args.style.white_space (λ x. says (marking g.D.TextDecorator.view
    tag) ends_mode))
    (in_turn (for_some c.args.style.background (λ x. says (marking g.D.TextDecorator.view tag) (ends_colour
    background_end)))
    (for_some c.args.style.colour (λ x. says (marking g.D.TextDecorator.view tag) (ends_colour colour_end)))) _ _ _
    (c.finish_white_space.ensures.done tag p)
    (turn_on (for_some c.args.style.background (λ x. says (marking g.D.TextDecorator.view tag) (ends_colour
    background_end)))
    (for_some c.args.style.colour (λ x. says (marking g.D.TextDecorator.view tag) (ends_colour colour_end))) _ _ _
    (c.finish_background.ensures.done tag p) (c.finish_colour.ensures.done tag p))
