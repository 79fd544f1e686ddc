use Rattle.std.proofs.Common.{◌≡◌, Err, ap}
use Rattle.std.proofs.lemmas.Result.{err_from_is_err_and, on_ok_weaker}
use Rattle.text_pieces.specs.declared.fault.BlockError.TheVariants.{TooNarrow}
use Rattle.block_renderer.specs.Seen.{marking}
use Rattle.block_trait.specs.Calls.{starts_colour, starts_mode}
use Rattle.text_decorators.specs.Marks.{background_start, colour_start}
use Rattle.layout_state.specs.Begins.{style_begins}
use Rattle.layout_state.specs.LayoutState.{for_some, in_turn, says}
use Rattle.layout_state.proofs.StepLemmas.{turn_off, turn_on}
use Rattle.layout_state.proofs.laying.LayoutState.begin_look.Goals as goal

pub returns-clause-done : goal.returns-clause-done
unfolding style_begins
returns-clause-done g c = on_ok_weaker c.begin_white_space.result
    (λ h. λ tag p. turn_on (for_some c.args.style.colour (λ x. says (marking g.D.TextDecorator.view tag) (starts_colour
    (colour_start x))))
    (in_turn (for_some c.args.style.background (λ x. says (marking g.D.TextDecorator.view tag) (starts_colour
    (background_start x))))
    (for_some c.args.style.white_space (λ x. says (marking g.D.TextDecorator.view tag) (starts_mode x)))) _ _ _
    (c.in_ok-begin_colour.ensures.done tag p)
    (turn_on (for_some c.args.style.background (λ x. says (marking g.D.TextDecorator.view tag) (starts_colour
    (background_start x))))
    (for_some c.args.style.white_space (λ x. says (marking g.D.TextDecorator.view tag) (starts_mode x))) _ _ _
    (c.in_ok-begin_background.ensures.done tag p) (h tag p))) c.begin_white_space.ensures.done

pub returns-clause-narrow : goal.returns-clause-narrow
unfolding style_begins
returns-clause-narrow g c = λ e. λ tag p. turn_on (for_some c.args.style.colour (λ x. says (marking
    g.D.TextDecorator.view tag) (starts_colour (colour_start x))))
    (in_turn (for_some c.args.style.background (λ x. says (marking g.D.TextDecorator.view tag) (starts_colour
    (background_start x))))
    (for_some c.args.style.white_space (λ x. says (marking g.D.TextDecorator.view tag) (starts_mode x)))) _ _ _
    (c.in_ok-begin_colour.ensures.done tag p)
    (turn_on (for_some c.args.style.background (λ x. says (marking g.D.TextDecorator.view tag) (starts_colour
    (background_start x))))
    (for_some c.args.style.white_space (λ x. says (marking g.D.TextDecorator.view tag) (starts_mode x))) _ _ _
    (c.in_ok-begin_background.ensures.done tag p) (c.begin_white_space.ensures.narrow e tag p))

pub returns-in_err-begin_colour-clause-narrow : goal.returns-in_err-begin_colour-clause-narrow
unfolding style_begins
returns-in_err-begin_colour-clause-narrow g c = λ e. λ tag p.
    let q = err_from_is_err_and c.from_residual.result c.from_residual.ensures.1 in
    let same : c.in_err-begin_colour.field-0.0 ≡ TooNarrow = cc (q.1, q.2, e) in
    turn_off (for_some c.args.style.colour (λ x. says (marking g.D.TextDecorator.view tag) (starts_colour (colour_start
    x))))
    (in_turn (for_some c.args.style.background (λ x. says (marking g.D.TextDecorator.view tag) (starts_colour
    (background_start x))))
    (for_some c.args.style.white_space (λ x. says (marking g.D.TextDecorator.view tag) (starts_mode x)))) _
    (c.in_err-begin_colour.ensures.narrow (ap Err same) tag p)

pub returns-in_err-begin_background-clause-narrow : goal.returns-in_err-begin_background-clause-narrow
unfolding style_begins
returns-in_err-begin_background-clause-narrow g c = λ e. λ tag p.
    let q = err_from_is_err_and c.from_residual-in_err-begin_background.result
    c.from_residual-in_err-begin_background.ensures.1 in
    let same : c.in_err-begin_background.field-0.0 ≡ TooNarrow = cc (q.1, q.2, e) in
    turn_on (for_some c.args.style.colour (λ x. says (marking g.D.TextDecorator.view tag) (starts_colour (colour_start
    x))))
    (in_turn (for_some c.args.style.background (λ x. says (marking g.D.TextDecorator.view tag) (starts_colour
    (background_start x))))
    (for_some c.args.style.white_space (λ x. says (marking g.D.TextDecorator.view tag) (starts_mode x)))) _ _ _
    (c.in_ok-begin_colour.ensures.done tag p)
    (turn_off (for_some c.args.style.background (λ x. says (marking g.D.TextDecorator.view tag) (starts_colour
    (background_start x))))
    (for_some c.args.style.white_space (λ x. says (marking g.D.TextDecorator.view tag) (starts_mode x))) _
    (c.in_err-begin_background.ensures.narrow (ap Err same) tag p))
