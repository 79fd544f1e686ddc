use Rattle.std.proofs.Common.{◌≡◌, Err, ap}
use Rattle.std.proofs.lemmas.Result.{err_from_is_err_and, on_ok_weaker}
use Rattle.text_pieces.specs.declared.fault.BlockError.TheVariants.{TooNarrow}
use Rattle.block_renderer.specs.Seen.{marking}
use Rattle.block_trait.specs.Calls.{starts_block, starts_preformat}
use Rattle.layout_state.specs.LayoutState.{says}
use Rattle.layout_state.proofs.StepLemmas.{turn_off, turn_on}
use Rattle.layout_state.proofs.laying.LayoutState.begin_preformatted.Goals as goal

pub returns-clause-done : goal.returns-clause-done
returns-clause-done g c = on_ok_weaker c.start_preformat.result
    (λ h. λ tag p. turn_on (says (marking g.D.TextDecorator.view tag) starts_block)
    (says (marking g.D.TextDecorator.view tag) starts_preformat) _ _ _
    (c.in_ok-start_block.ensures.done tag p) (h tag p)) c.start_preformat.ensures.done

pub returns-clause-narrow : goal.returns-clause-narrow
returns-clause-narrow g c = λ e. λ tag p. turn_on (says (marking g.D.TextDecorator.view tag) starts_block)
    (says (marking g.D.TextDecorator.view tag) starts_preformat) _ _ _
    (c.in_ok-start_block.ensures.done tag p) (c.start_preformat.ensures.narrow e tag p)

pub returns-in_err-start_block-clause-narrow : goal.returns-in_err-start_block-clause-narrow
returns-in_err-start_block-clause-narrow g c = λ e. λ tag p.
    let q = err_from_is_err_and c.from_residual.result c.from_residual.ensures.1 in
    let same : c.in_err-start_block.field-0.0 ≡ TooNarrow = cc (q.1, q.2, e) in
    turn_off (says (marking g.D.TextDecorator.view tag) starts_block)
    (says (marking g.D.TextDecorator.view tag) starts_preformat) _
    (c.in_err-start_block.ensures.narrow (ap Err same) tag p)
