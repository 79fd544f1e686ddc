use Rattle.std.proofs.Common.{◌∙◌}
use Rattle.tree_serializer.proofs.EscapeLemmas.{none_found, not_at_end, mark_found}
use Rattle.tree_serializer.proofs.escape.next_escaped.Goals as goal

pub returns-in_err-at-clause-value : goal.returns-in_err-at-clause-value
returns-in_err-at-clause-value c =
    rw c.from_residual.ensures
    (none_found c.args.in_value c.marks.result.now c.args.text.now c.utf8.text c.marks.ensures
    c.in_err-at.ensures.cases)

pub returns-in_err-c-clause-value : goal.returns-in_err-c-clause-value
returns-in_err-c-clause-value c = absurd
    (not_at_end c.args.in_value c.marks.result.now c.args.text.now c.chars-characters.result.rest.now c.in_ok-at.at
    c.marks.ensures c.in_ok-at.ensures.cases (c.chars-characters.ensures.rest ∙ c.split_at.ensures.back)
    c.in_err-c.ensures.steps.0.0)

pub returns-clause-value : goal.returns-clause-value
returns-clause-value c =
    rw c.as_str.ensures
    (mark_found c.args.in_value c.marks.result.now c.args.text.now c.split_at.result.0.now
    c.chars-characters.result.rest.now c.next.new.self.rest.now c.reference.result.now c.in_ok-at.at c.in_ok-c.c
    c.utf8.text c.marks.ensures c.in_ok-at.ensures.cases c.split_at.ensures.front
    (c.chars-characters.ensures.rest ∙ c.split_at.ensures.back) c.in_ok-c.ensures.steps.0 c.reference.ensures)
