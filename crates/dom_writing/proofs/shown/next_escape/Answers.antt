use Rattle.std.proofs.Common.{◌∙◌}
use Rattle.dom_writing.proofs.ShownLemmas.{mark_found, none_found, not_at_end}
use Rattle.dom_writing.proofs.shown.next_escape.Goals as goal

pub returns-in_err-at-clause-value : goal.returns-in_err-at-clause-value
returns-in_err-at-clause-value c =
    rw c.from_residual.ensures (none_found c.args.text.now c.utf8.text c.in_err-at.ensures.cases)

pub returns-in_err-c-clause-value : goal.returns-in_err-c-clause-value
returns-in_err-c-clause-value c = absurd
    (not_at_end c.args.text.now c.chars-characters.result.rest.now c.in_ok-at.at c.in_ok-at.ensures.cases
    (c.chars-characters.ensures.rest ∙ c.split_at.ensures.back) c.in_err-c.ensures.steps.0.0)

pub returns-clause-value : goal.returns-clause-value
returns-clause-value c =
    rw c.as_str.ensures
    (mark_found c.args.text.now c.split_at.result.0.now c.chars-characters.result.rest.now c.next.new.self.rest.now
    c.escape.result.now c.in_ok-at.at c.in_ok-c.c c.utf8.text c.in_ok-at.ensures.cases c.split_at.ensures.front
    (c.chars-characters.ensures.rest ∙ c.split_at.ensures.back) c.in_ok-c.ensures.steps.0 c.escape.ensures)
