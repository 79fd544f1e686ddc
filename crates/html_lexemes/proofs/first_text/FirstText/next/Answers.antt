use Rattle.std.proofs.Common.{sym, ap, ◌∙◌, slice_get}
use Rattle.std.proofs.lemmas.Str.{IsUtf8-string_bytes}
use Rattle.html_lexemes.proofs.QueueLemmas.{past_first}
use Rattle.html_lexemes.proofs.first_text.FirstText.next.Goals as goal

pub invariant_of-self : goal.invariant_of-self
invariant_of-self c =
    let first = ap (λ l. slice_get l 0) c.self.view_is ∙ sym c.peek.ensures ∙ c.in_ok-c.was in
    (past_first _ c.self.inside.start c.in_ok-c.c c.len_utf8.result
    (IsUtf8-string_bytes c.self.inside.text) c.self.invariant first c.len_utf8.ensures.value).boundary

pub returns-clause-takes : goal.returns-clause-takes
returns-clause-takes c =
    let first = ap (λ l. slice_get l 0) c.self.view_is ∙ sym c.peek.ensures ∙ c.in_ok-c.was in
    let past =
    past_first _ c.self.inside.start c.in_ok-c.c c.len_utf8.result
    (IsUtf8-string_bytes c.self.inside.text) c.self.invariant first c.len_utf8.ensures.value in
    sym (past.parts ∙ c.self.view_is)
