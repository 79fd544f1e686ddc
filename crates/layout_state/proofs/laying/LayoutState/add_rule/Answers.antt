use Rattle.std.proofs.Common.{◌≡◌, Err, ap}
use Rattle.std.proofs.lemmas.Result.{err_from_is_err_and, on_ok_weaker}
use Rattle.text_pieces.specs.declared.fault.BlockError.TheVariants.{TooNarrow}
use Rattle.block_renderer.specs.Seen.{marking}
use Rattle.layout_state.specs.Begins.{empty_text, rule_line}
use Rattle.layout_state.proofs.StepLemmas.{turn_off, turn_on}
use Rattle.layout_state.proofs.laying.LayoutState.add_rule.Goals as goal

pub returns-clause-done : goal.returns-clause-done
returns-clause-done g c = on_ok_weaker c.add_rule_line.result
    (λ h. λ tag p. turn_on (empty_text (marking g.D.TextDecorator.view tag))
    (rule_line (marking g.D.TextDecorator.view tag)) _ _ _
    (c.in_ok-add_empty_text.ensures.done tag p) (h tag p)) c.add_rule_line.ensures.done

pub returns-clause-narrow : goal.returns-clause-narrow
returns-clause-narrow g c = λ e. λ tag p. turn_on (empty_text (marking g.D.TextDecorator.view tag))
    (rule_line (marking g.D.TextDecorator.view tag)) _ _ _
    (c.in_ok-add_empty_text.ensures.done tag p) (c.add_rule_line.ensures.narrow e tag p)

pub returns-in_err-add_empty_text-clause-narrow : goal.returns-in_err-add_empty_text-clause-narrow
returns-in_err-add_empty_text-clause-narrow g c = λ e. λ tag p.
    let q = err_from_is_err_and c.from_residual.result c.from_residual.ensures.1 in
    let same : c.in_err-add_empty_text.field-0.0 ≡ TooNarrow = cc (q.1, q.2, e) in
    turn_off (empty_text (marking g.D.TextDecorator.view tag)) (rule_line (marking g.D.TextDecorator.view tag)) _
    (c.in_err-add_empty_text.ensures.narrow (ap Err same) tag p)
