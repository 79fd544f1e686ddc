use Rattle.std.proofs.Common.{◌≡◌, Err, ap}
use Rattle.std.proofs.lemmas.Result.{err_from_is_err_and}
use Rattle.text_pieces.specs.declared.fault.BlockError.TheVariants.{TooNarrow}
use Rattle.layout_values.specs.Seen.{open_item_of}
use Rattle.layout_values.proofs.OpenLemmas.{box_waits, item_opens, no_item_opens}
use Rattle.layout_values.proofs.lists.open_item.Goals as goal

pub returns-clause-opened : goal.returns-clause-opened
returns-clause-opened g c = λ tag p nodes w inside.
    box_waits _ w (open_item_of g.D.Annotation.EqualCopy.seen g.D.TextDecorator.view.held) _ _ _ _
    c.in_ok-item.ensures.ok (item_opens _ w c.args.mark c.next.result c.args.columns c.args.least _ _ inside _ _ _ _
    c.in_ok-first.ensures.stays (c.in_ok-first.ensures.text tag) c.in_ok-following.ensures c.next.ensures
    (c.in_ok-outer.ensures.done tag p) c.in_ok-outer.ensures.outer)

pub returns-in_err-outer-clause-narrow : goal.returns-in_err-outer-clause-narrow
returns-in_err-outer-clause-narrow g c = λ e. λ tag p inside.
    let q = err_from_is_err_and c.from_residual-in_err-outer.result c.from_residual-in_err-outer.ensures.1 in
    let same : c.in_err-outer.field-0.0 ≡ TooNarrow = cc (q.1, q.2, e) in
    no_item_opens _ c.args.mark c.args.columns c.args.least inside _ _ c.in_ok-first.ensures.stays
    (c.in_err-outer.ensures.narrow (ap Err same) tag p)
