use Rattle.std.proofs.Common.{Err, sym, ap, ◌∙◌}
use Rattle.std.proofs.lemmas.Result.{err_from_is_err_and}
use Rattle.article_values.specs.Outcomes.{fault_met}
use Rattle.article_values.specs.Views.{blocks_view}
use Rattle.article_values.proofs.Fitting.{blocks_fit}
use Rattle.article_values.proofs.article.Article.new.Goals as goal

pub returns-in_err-check_blocks-clause-never_memory : goal.returns-in_err-check_blocks-clause-never_memory
returns-in_err-check_blocks-clause-never_memory c = λ e.
    let p = err_from_is_err_and c.from_residual-in_err-check_blocks.result
    c.from_residual-in_err-check_blocks.ensures.1 in
    blocks_fit 1 (blocks_view c.as_slice.result.now) (sym c.check_blocks.ensures
    ∙ ap fault_met c.in_err-check_blocks.was ∙ sym (ap fault_met (p.1 ∙ ap Err p.2)) ∙ e)
