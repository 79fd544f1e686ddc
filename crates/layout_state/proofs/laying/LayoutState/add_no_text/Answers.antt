use Rattle.std.proofs.Common.{◌≡◌, [], Err, None, Option, Some, ap, chars, sym, ◌∙◌}
use Rattle.std.proofs.lemmas.Result.{err_from_is_err_and}
use Rattle.std.proofs.lemmas.Str.{chars-nil}
use Rattle.text_pieces.specs.declared.fault.BlockError.TheVariants.{TooNarrow}
use Rattle.block_renderer.specs.Seen.{marking}
use Rattle.block_trait.specs.Calls.{adds_text, ends_mode}
use Rattle.layout_state.specs.LayoutState.{says}
use Rattle.layout_state.specs.Seen.{laying_of}
use Rattle.layout_state.proofs.StepLemmas.{turn_off, turn_on}
use Rattle.layout_state.proofs.laying.LayoutState.add_no_text.Goals as goal

pub returns-clause-done : goal.returns-clause-done
returns-clause-done g c = λ tag p. turn_on (says (marking g.D.TextDecorator.view tag) (adds_text []))
    (says (marking g.D.TextDecorator.view tag) ends_mode) _ _ _
    (ap (λ cs. says (marking g.D.TextDecorator.view tag) (adds_text cs)
    (laying_of g.D.Annotation.EqualCopy.seen g.D.TextDecorator.view.held c.args.self.now)) (sym chars-nil)
    ∙ c.in_ok-add_text.ensures.done tag p) (c.end_mode.ensures.done tag p)

pub returns-in_err-add_text-clause-narrow : goal.returns-in_err-add_text-clause-narrow
returns-in_err-add_text-clause-narrow g c = λ e. λ tag p.
    let q = err_from_is_err_and c.from_residual.result c.from_residual.ensures.1 in
    let same : c.in_err-add_text.field-0.0 ≡ TooNarrow = cc (q.1, q.2, e) in
    turn_off (says (marking g.D.TextDecorator.view tag) (adds_text []))
    (says (marking g.D.TextDecorator.view tag) ends_mode) _
    (ap (λ cs. says (marking g.D.TextDecorator.view tag) (adds_text cs)
    (laying_of g.D.Annotation.EqualCopy.seen g.D.TextDecorator.view.held c.args.self.now)) (sym chars-nil)
    ∙ c.in_err-add_text.ensures.narrow (ap Err same) tag p)
