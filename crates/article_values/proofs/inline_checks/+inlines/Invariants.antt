use Rattle.std.proofs.Common.{◌≡◌, false, drop}
use Rattle.article_values.specs.Faults.{fault_of_inlines}
use Rattle.article_values.specs.Views.{inlines_view}
use Rattle.article_values.proofs.inline_checks.+inlines.Given as goal

abbrev pub invariant-check_inlines-inlines : goal.invariant-check_inlines-inlines
invariant-check_inlines-inlines l = fault_of_inlines l.depth l.in_link false (inlines_view l.inlines)
    ≡ fault_of_inlines l.depth l.in_link l.after_text (inlines_view (drop l.inline-index l.inlines))
