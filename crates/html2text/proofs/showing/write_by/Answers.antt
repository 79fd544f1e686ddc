use Rattle.std.proofs.Common.{◌≡◌, ◌∙◌, Err, ap, inl, inr, rules, sym}
use Rattle.std.proofs.lemmas.Result.{err_from_is_err_and}
use Rattle.html2text.proofs.EndingLemmas.{ends_refused, ends_unpassed, kept, kept_part, run_refused}
use Rattle.html2text.proofs.showing.write_by.Goals as goal

pub returns-in_err-run : goal.returns-in_err-run
returns-in_err-run g c =
    let q = err_from_is_err_and c.from_residual.result c.from_residual.ensures.1 in
    let same : c.in_err-run.field-0.0 ≡ q.0 = sym q.2 in
    ends_refused _ _ _ _ _ _ _ _ _ _ _ _ _ c.from_residual.result q.0 q.1
    (run_refused _ _ _ _ _ _ _ _ q.0 (λ e. c.in_err-run.ensures.narrow (ap Err (same ∙ e)))
    (λ e. c.in_err-run.ensures.fail (ap Err (same ∙ e))) (λ e. c.in_err-run.ensures.io (ap Err (same ∙ e)))
    (λ e. c.in_err-run.ensures.too_long (ap Err (same ∙ e))) (λ e. c.in_err-run.ensures.long (ap Err (same ∙ e))))
    (elim c.in_err-run.ensures.unwritten [
      | inl same ↦ inl same
      | inr part ↦ inr (part.1, part.2)
    ])

pub returns-in_err-flush : goal.returns-in_err-flush
returns-in_err-flush g c =
    let q = err_from_is_err_and c.from_residual-in_err-flush.result c.from_residual-in_err-flush.ensures.1 in
    ends_unpassed _ _ _ _ _ _ _ _ _ _ _ _ _ c.from_residual-in_err-flush.result q.0 q.1 q.2
    (sym c.in_err-flush.ensures.refused)
    (kept_part _ _ _ _ _ c.in_ok-run.ensures.written c.in_err-flush.ensures.bytes)

pub returns : goal.returns
returns g c = (
  kept _ _ _ _ _ _ c.in_ok-run.ensures.written (c.in_ok-run.ensures.short tt) c.in_ok-flush.ensures.bytes,
  search rules,
  search rules,
)
