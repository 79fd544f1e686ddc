use Rattle.std.proofs.Common.{chars, sym, ◌∙◌}
use Rattle.article_values.specs.Outcomes.{fault_met}
use Rattle.article_values.proofs.Turns.{after_case, empty_case, some_case, text_case}
use Rattle.article_values.proofs.inline_checks.check_text.Goals as goal

pub returns-then-is_empty : goal.returns-then-is_empty
returns-then-is_empty c = λ in_link rest. empty_case c.args.text.now _ (sym c.is_empty.ensures ∙ c.if-is_empty.true)

pub returns-then-after_text : goal.returns-then-after_text
returns-then-after_text c = λ in_link rest. after_case c.args.text.now c.args.after_text _ c.utf8.text
    (sym c.is_empty.ensures ∙ c.if-is_empty.false) c.if-after_text.true

pub returns : goal.returns
returns c = λ in_link rest. text_case (chars c.args.text.now) c.args.depth in_link c.args.after_text rest
    (fault_met c.check_depth.result)
    (some_case c.args.text.now c.utf8.text (sym c.is_empty.ensures ∙ c.if-is_empty.false)) c.if-after_text.false
    (sym c.has_forbidden.ensures ∙ c.if-has_forbidden.false) c.check_depth.ensures
