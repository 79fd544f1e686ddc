use Rattle.std.proofs.Common.{◌≡◌, Err, ap, rules}
use Rattle.render_values.specs.Looks.{plain}
use Rattle.std.proofs.lemmas.Result.{err_from_is_err_and}
use Rattle.text_pieces.specs.declared.fault.BlockError.TheVariants.{TooNarrow}
use Rattle.layout_values.proofs.OpenLemmas.{look_opens, no_look_opens, plain_opens}
use Rattle.block_renderer.specs.Seen.{marking}
use Rattle.layout_state.specs.Seen.{laying_of}
use Rattle.layout_values.proofs.looking.open_look.Goals as goal

pub returns-clause-opened : goal.returns-clause-opened
returns-clause-opened g c = λ tag p nodes w inside.
    look_opens _ w c.args.style inside _ _ (c.in_ok-begin_look.ensures.done tag p)

pub returns-in_err-begin_look-clause-narrow : goal.returns-in_err-begin_look-clause-narrow
returns-in_err-begin_look-clause-narrow g c = λ e. λ tag p inside.
    let q = err_from_is_err_and c.from_residual.result c.from_residual.ensures.1 in
    let same : c.in_err-begin_look.field-0.0 ≡ TooNarrow = cc (q.1, q.2, e) in
    no_look_opens _ c.args.style inside _ (c.in_err-begin_look.ensures.narrow (ap Err same) tag p)

pub returns-then-eq-clause-opened : goal.returns-then-eq-clause-opened
returns-then-eq-clause-opened g c = λ tag p nodes w inside.
    let is : c.args.style ≡ plain = search rules in
    plain_opens (marking g.D.TextDecorator.view tag) w c.args.style inside (laying_of g.D.Annotation.EqualCopy.seen
    g.D.TextDecorator.view.held c.args.laying.now) is
