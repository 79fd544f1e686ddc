use Rattle.std.proofs.Common.{◌≡◌, Err, ap}
use Rattle.std.proofs.lemmas.Result.{err_from_is_err_and, on_ok_weaker}
use Rattle.text_pieces.specs.declared.fault.BlockError.TheVariants.{TooNarrow}
use Rattle.block_renderer.specs.Seen.{marking}
use Rattle.block_trait.specs.Calls.{starts_mode}
use Rattle.text_pieces.specs.declared.white_space.WhiteSpace.TheVariants.{Pre}
use Rattle.layout_state.specs.Begins.{no_text}
use Rattle.layout_state.specs.LayoutState.{says}
use Rattle.layout_state.proofs.StepLemmas.{turn_off, turn_on}
use Rattle.layout_state.proofs.laying.LayoutState.add_empty_text.Goals as goal

pub returns-clause-done : goal.returns-clause-done
returns-clause-done g c = on_ok_weaker c.add_no_text.result
    (λ h. λ tag p. turn_on (says (marking g.D.TextDecorator.view tag) (starts_mode Pre))
    (no_text (marking g.D.TextDecorator.view tag)) _ _ _
    (c.in_ok-start_mode.ensures.done tag p) (h tag p)) c.add_no_text.ensures.done

pub returns-clause-narrow : goal.returns-clause-narrow
returns-clause-narrow g c = λ e. λ tag p. turn_on (says (marking g.D.TextDecorator.view tag) (starts_mode Pre))
    (no_text (marking g.D.TextDecorator.view tag)) _ _ _
    (c.in_ok-start_mode.ensures.done tag p) (c.add_no_text.ensures.narrow e tag p)

pub returns-in_err-start_mode-clause-narrow : goal.returns-in_err-start_mode-clause-narrow
returns-in_err-start_mode-clause-narrow g c = λ e. λ tag p.
    let q = err_from_is_err_and c.from_residual.result c.from_residual.ensures.1 in
    let same : c.in_err-start_mode.field-0.0 ≡ TooNarrow = cc (q.1, q.2, e) in
    turn_off (says (marking g.D.TextDecorator.view tag) (starts_mode Pre))
    (no_text (marking g.D.TextDecorator.view tag)) _
    (c.in_err-start_mode.ensures.narrow (ap Err same) tag p)
