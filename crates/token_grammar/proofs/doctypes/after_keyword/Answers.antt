use Rattle.std.proofs.Common.{chars, ap, ◌∙◌}
use Rattle.std.proofs.lemmas.Result.{IfOk-weaker}
use Rattle.token_grammar.specs.Doctypes.{after_public, skipped, system_or, with_quirks}
use Rattle.token_grammar.specs.Slices.{after_word}
use Rattle.token_grammar.proofs.DoctypeLemmas.{after_keyword-none, after_keyword-public, after_keyword-system}
use Rattle.token_grammar.proofs.DoctypeLemmas.{public_codes, system_codes, system_or-other, system_or-quote}
use Rattle.token_grammar.proofs.doctypes.after_keyword.Goals as goal

pub returns-in-Some-clause-value : goal.returns-in-Some-clause-value
returns-in-Some-clause-value c =
    let d = c.args.doctype in
    let cs = chars c.args.text.now in
    let public = c.in-Some.ensures.value ∙ ap (λ w. after_word w cs) public_codes in
    IfOk-weaker c.after_public.result _ _ (λ x p. p ∙ ap (after_public d) c.skip.ensures ∙
    after_keyword-public d cs _ public) c.after_public.ensures.value

pub returns-in_default-rest_after_word-clause-value : goal.returns-in_default-rest_after_word-clause-value
returns-in_default-rest_after_word-clause-value c =
    let d = c.args.doctype in
    let cs = chars c.args.text.now in
    let public = c.in_default.ensures.value ∙ ap (λ w. after_word w cs) public_codes in
    let system = c.in_default-rest_after_word.ensures.value ∙ ap (λ w. after_word w cs) system_codes in
    c.ends_here.ensures.value ∙ after_keyword-none d cs public system

pub returns-in-Some-after_opening_quote-clause-value : goal.returns-in-Some-after_opening_quote-clause-value
returns-in-Some-after_opening_quote-clause-value c =
    let d = c.args.doctype in
    let cs = chars c.args.text.now in
    let public = c.in_default.ensures.value ∙ ap (λ w. after_word w cs) public_codes in
    let system = c.in-Some-rest_after_word.ensures.value ∙ ap (λ w. after_word w cs) system_codes in
    let quoted = c.in-Some-after_opening_quote.ensures.value in
    IfOk-weaker c.system_at.result _ _
    (λ x p.
    p ∙ system_or-quote d (skipped (with_quirks d)) _ _ _ quoted.0 quoted.1 ∙ ap
    (system_or d (skipped (with_quirks d))) c.skip-rest.ensures
    ∙ after_keyword-system d cs _ public system)
    c.system_at.ensures.value

pub returns-in-None-clause-value : goal.returns-in-None-clause-value
returns-in-None-clause-value c =
    let d = c.args.doctype in
    let cs = chars c.args.text.now in
    let public = c.in_default.ensures.value ∙ ap (λ w. after_word w cs) public_codes in
    let system = c.in-Some-rest_after_word.ensures.value ∙ ap (λ w. after_word w cs) system_codes in
    c.cut_short.ensures.value ∙ system_or-other d (skipped (with_quirks d))
    (chars c.skip-rest.result.now) c.in-None.ensures.value ∙
    ap (system_or d (skipped (with_quirks d))) c.skip-rest.ensures
    ∙ after_keyword-system d cs _ public system
