use Rattle.std.proofs.Common.{◌≡◌, Err, ap, rules, true}
use Rattle.std.proofs.lemmas.Result.{err_from_is_err_and, on_ok_weaker}
use Rattle.text_pieces.specs.declared.fault.BlockError.TheVariants.{TooNarrow}
use Rattle.layout_tables.proofs.TableStepLemmas.{fence_off, fence_on}
use Rattle.layout_tables.proofs.table.fence.Goals as goal

pub returns-clause-done : goal.returns-clause-done
returns-clause-done g c =
    let asked : c.args.fenced ≡ true = search rules in
    on_ok_weaker c.end_line.result (λ h. λ tag p. fence_on _ c.args.fenced _ _ _ asked
    (c.in_ok-add_text.ensures.done tag p) (h tag p))
    c.end_line.ensures.done

pub returns-clause-narrow : goal.returns-clause-narrow
returns-clause-narrow g c = λ e. λ tag p.
    let asked : c.args.fenced ≡ true = search rules in
    fence_on _ c.args.fenced _ _ _ asked
    (c.in_ok-add_text.ensures.done tag p)
    (c.end_line.ensures.narrow e tag p)

pub returns-in_err-add_text-clause-narrow : goal.returns-in_err-add_text-clause-narrow
returns-in_err-add_text-clause-narrow g c = λ e. λ tag p.
    let q = err_from_is_err_and c.from_residual.result c.from_residual.ensures.1 in
    let same : c.in_err-add_text.field-0.0 ≡ TooNarrow = cc (q.1, q.2, e) in
    let asked : c.args.fenced ≡ true = search rules in
    fence_off _ c.args.fenced _ asked
    (c.in_err-add_text.ensures.narrow (ap Err same) tag p)
