use Rattle.std.proofs.Common.{◌≡◌, Err, None, Some, ap, inr}
use Rattle.std.proofs.lemmas.Result.{err_from_is_err_and}
use Rattle.block_renderer.specs.Seen.{sub_of}
use Rattle.render_conversion.specs.declared.error.RenderError.TheVariants.{TooNarrow}
use Rattle.text_block_renderer.specs.SeenParts.{parts_of}
use Rattle.html_render_tree.proofs.BareLemmas.{or_else}
use Rattle.html_render_tree.proofs.OptionLemmas.{bound_as, none_bound}
use Rattle.html_render_tree.proofs.config.RenderConfig.closed.Goals as goal

pub returns-in-Ok-clause-closed : goal.returns-in-Ok-clause-closed
returns-in-Ok-clause-closed g c = λ tag p.
    bound_as _ _ (parts_of g.D.Annotation.EqualCopy.seen g.D.TextDecorator.view.held c.in_ok-text.text)
    (Some (sub_of g.D.Annotation.EqualCopy.seen g.D.TextDecorator.view.held c.in-Ok.sub))
    (c.in_ok-text.ensures.laid tag p) (c.in-Ok.ensures.closed tag p)

pub returns-in-Err-clause-narrow : goal.returns-in-Err-clause-narrow
returns-in-Err-clause-narrow g c = λ e.
    let narrow : c.refusal.result ≡ TooNarrow = cc e in
    inr (λ tag p. bound_as _ _ (parts_of g.D.Annotation.EqualCopy.seen g.D.TextDecorator.view.held c.in_ok-text.text)
    None
    (c.in_ok-text.ensures.laid tag p) (c.in-Err.ensures.narrow (ap Err (c.refusal.ensures.narrow narrow)) tag p))

pub returns-in_err-text-clause-narrow : goal.returns-in_err-text-clause-narrow
returns-in_err-text-clause-narrow g c = λ e.
    let q = err_from_is_err_and c.from_residual.result c.from_residual.ensures.1 in
    let same : c.in_err-text.field-0.0 ≡ TooNarrow = cc (q.1, q.2, e) in
    or_else (λ never. λ tag p. none_bound _ _ (never tag p)) (c.in_err-text.ensures.narrow (ap Err same))
