use Rattle.std.proofs.Common.{◌≡◌, Err, ap, sym, ◌∙◌}
use Rattle.std.proofs.lemmas.Result.{err_from_is_err_and}
use Rattle.text_pieces.specs.declared.fault.BlockError.TheVariants.{TooNarrow}
use Rattle.block_renderer.specs.Seen.{marking}
use Rattle.layout_state.specs.Seen.{laying_of}
use Rattle.layout_values.specs.Lay.{lay}
use Rattle.layout_values.specs.Sizing.{in_mode}
use Rattle.layout_values.specs.Seen.{waiting_of}
use Rattle.layout_values.specs.Continuation.{undone}
use Rattle.layout_walk.proofs.SegmentLemmas.{nothing_here}
use Rattle.layout_walk.proofs.walk.leave.Goals as goal

pub returns-in_err-end_cell-in-CellEnds-clause-narrow : goal.returns-in_err-end_cell-in-CellEnds-clause-narrow
returns-in_err-end_cell-in-CellEnds-clause-narrow g c = λ e. λ tag p w.
    let q = err_from_is_err_and c.from_residual-in_err-end_cell-in-CellEnds.result
    c.from_residual-in_err-end_cell-in-CellEnds.ensures.1 in
    let same : c.in_err-end_cell-in-CellEnds.field-0.0 ≡ TooNarrow = cc (q.1, q.2, e) in
    ap (λ x. undone (marking g.D.TextDecorator.view tag) w (waiting_of g.D.Annotation.EqualCopy.seen
    g.D.TextDecorator.view.held c.args.nodes.now x)
    (laying_of g.D.Annotation.EqualCopy.seen g.D.TextDecorator.view.held c.args.laying.now)) c.in-CellEnds.is
    ∙ c.in_err-end_cell-in-CellEnds.ensures.narrow (ap Err same) tag p

pub returns-in_ok-end_cell-in-CellEnds-clause-goes : goal.returns-in_ok-end_cell-in-CellEnds-clause-goes
returns-in_ok-end_cell-in-CellEnds-clause-goes g c = λ tag p w.
    ap (λ v. lay (marking g.D.TextDecorator.view tag) (in_mode w c.args.place.mode) v
    (laying_of g.D.Annotation.EqualCopy.seen
    g.D.TextDecorator.view.held c.end_cell.new.laying))
    (nothing_here c.args.nodes.now c.args.place.at c.args.place.end c.requires.past)
    ∙ (sym (c.in_ok-end_cell-in-CellEnds.ensures.done tag p)
    ∙ ap (λ x. undone (marking g.D.TextDecorator.view tag) w (waiting_of g.D.Annotation.EqualCopy.seen
    g.D.TextDecorator.view.held c.args.nodes.now x)
    (laying_of g.D.Annotation.EqualCopy.seen g.D.TextDecorator.view.held c.args.laying.now)) (sym c.in-CellEnds.is))
