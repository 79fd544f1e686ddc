use Rattle.std.proofs.Common.{◌≡◌, Err, ap}
use Rattle.std.proofs.lemmas.Result.{err_from_is_err_and}
use Rattle.text_pieces.specs.declared.fault.BlockError.TheVariants.{TooNarrow}
use Rattle.layout_values.specs.Seen.{open_part_of}
use Rattle.layout_values.proofs.OpenLemmas.{box_waits, no_part_opens, part_opens}
use Rattle.layout_values.proofs.parts.open_part.Goals as goal

pub returns-clause-opened : goal.returns-clause-opened
returns-clause-opened g c = λ tag p nodes w inside.
    box_waits _ w (open_part_of g.D.Annotation.EqualCopy.seen g.D.TextDecorator.view.held) _ _ _ _
    c.in_ok-part.ensures.ok (part_opens _ w c.args.columns c.args.least _ _ inside _ _ _
    (c.in_ok-outer.ensures.done tag p) c.in_ok-outer.ensures.outer)

pub returns-in_err-outer-clause-narrow : goal.returns-in_err-outer-clause-narrow
returns-in_err-outer-clause-narrow g c = λ e. λ tag p inside.
    let q = err_from_is_err_and c.from_residual.result c.from_residual.ensures.1 in
    let same : c.in_err-outer.field-0.0 ≡ TooNarrow = cc (q.1, q.2, e) in
    no_part_opens _ c.args.columns c.args.least _ _ inside _ (c.in_err-outer.ensures.narrow (ap Err same) tag p)
