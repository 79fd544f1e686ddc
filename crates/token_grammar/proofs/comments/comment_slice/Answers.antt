use Rattle.std.proofs.Common.{chars, ap, ◌∙◌}
use Rattle.token_grammar.specs.Slices.{after}
use Rattle.token_grammar.proofs.MarkLemmas.{arrow_codes, comment_slice-empty, comment_slice-ended, comment_slice-found}
use Rattle.token_grammar.proofs.MarkLemmas.{empty_same, ended_same, greater_codes, or_is}
use Rattle.token_grammar.proofs.comments.comment_slice.Goals as goal

pub returns-in-Some-clause-value : goal.returns-in-Some-clause-value
returns-in-Some-clause-value c =
    let cs = chars c.args.text.now in
    let found =
    or_is (λ rest. chars rest.now) _ _ _ _ _ c.in-Some.ensures
    (c.trailing.ensures.value ∙ ap (λ m. after m cs) greater_codes)
    (c.trailing-2.ensures.value ∙ ap (λ m. after m cs) arrow_codes) in
    empty_same (chars c.in-Some.rest.now) ∙ comment_slice-empty cs (chars c.in-Some.rest.now) found

pub returns-in-Some-cut_at_mark-clause-value : goal.returns-in-Some-cut_at_mark-clause-value
returns-in-Some-cut_at_mark-clause-value c =
    let cs = chars c.args.text.now in
    let none =
    or_is (λ rest. chars rest.now) _ _ _ _ _ c.in_default.ensures
    (c.trailing.ensures.value ∙ ap (λ m. after m cs) greater_codes)
    (c.trailing-2.ensures.value ∙ ap (λ m. after m cs) arrow_codes) in
    comment_slice-found cs _ none c.in-Some-cut_at_mark.ensures.value

pub returns-in-None-clause-value : goal.returns-in-None-clause-value
returns-in-None-clause-value c =
    let cs = chars c.args.text.now in
    let none =
    or_is (λ rest. chars rest.now) _ _ _ _ _ c.in_default.ensures
    (c.trailing.ensures.value ∙ ap (λ m. after m cs) greater_codes)
    (c.trailing-2.ensures.value ∙ ap (λ m. after m cs) arrow_codes) in
    ended_same _ _ c.without_begun_mark.ensures ∙ comment_slice-ended cs none c.in-None.ensures.value
