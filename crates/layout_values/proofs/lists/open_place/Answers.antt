use Rattle.std.proofs.Common.{◌≡◌, Err, ap, ◌∙◌}
use Rattle.std.proofs.lemmas.Result.{err_from_is_err_and}
use Rattle.text_pieces.specs.declared.fault.BlockError.TheVariants.{TooNarrow}
use Rattle.block_renderer.specs.Seen.{marking}
use Rattle.layout_values.specs.Lay.{placed}
use Rattle.layout_state.specs.Seen.{laying_of}
use Rattle.layout_state.specs.declared.around.Around.{Around}
use Rattle.layout_values.proofs.StepLemmas.{nothing_waits}
use Rattle.layout_values.proofs.lists.open_place.Goals as goal

pub returns-in-Flow-clause-opened : goal.returns-in-Flow-clause-opened
returns-in-Flow-clause-opened g c = λ tag p nodes w inside.
    ap (λ (a : Around). placed (marking g.D.TextDecorator.view tag) a inside (laying_of g.D.Annotation.EqualCopy.seen
    g.D.TextDecorator.view.held c.args.laying.now)) c.in-Flow.is
    ∙ nothing_waits (marking g.D.TextDecorator.view tag) w (inside (laying_of g.D.Annotation.EqualCopy.seen
    g.D.TextDecorator.view.held c.args.laying.now))

pub returns-in_err-open_item-in-Items-clause-narrow : goal.returns-in_err-open_item-in-Items-clause-narrow
returns-in_err-open_item-in-Items-clause-narrow g c = λ e. λ tag p inside.
    let q = err_from_is_err_and c.from_residual.result c.from_residual.ensures.1 in
    let same : c.in_err-open_item-in-Items.field-0.0 ≡ TooNarrow = cc (q.1, q.2, e) in
    ap (λ (a : Around). placed (marking g.D.TextDecorator.view tag) a inside (laying_of g.D.Annotation.EqualCopy.seen
    g.D.TextDecorator.view.held c.args.laying.now)) c.in-Items.is
    ∙ c.in_err-open_item-in-Items.ensures.narrow (ap Err same) tag p inside
