use Rattle.std.proofs.Common.{chars, ap, ◌∙◌}
use Rattle.std.proofs.lemmas.Result.{IfOk-weaker}
use Rattle.token_grammar.specs.Doctypes.{ends_here, system_or, with_public}
use Rattle.token_grammar.proofs.DoctypeLemmas.{IsIdentifier-read, closed_public-some, public_at-is, system_or-other}
use Rattle.token_grammar.proofs.DoctypeLemmas.{system_or-quote}
use Rattle.token_grammar.proofs.doctypes.public_at.Goals as goal

pub returns-in-Some-after_opening_quote-clause-value : goal.returns-in-Some-after_opening_quote-clause-value
returns-in-Some-after_opening_quote-clause-value c =
    let q = c.args.quote in
    let cs = chars c.args.text.now in
    let d = with_public c.args.doctype c.in_ok-shown.field-0 in
    let read =
    IsIdentifier-read q cs _ _ _ c.split_while.ensures.front c.split_while.ensures.rest c.in_ok-shown.ensures in
    let second = c.in-Some-after_opening_quote.ensures.value in
    IfOk-weaker c.system_at.result _ _
    (λ x p.
    p ∙ system_or-quote d (ends_here d) _ _ _ second.0 second.1 ∙ ap (system_or d (ends_here d)) c.skip-rest.ensures
    ∙ closed_public-some q d _ _ c.in-Some.ensures.value
    ∙ public_at-is c.args.doctype q cs _ _ read)
    c.system_at.ensures.value

pub returns-in-None-clause-value : goal.returns-in-None-clause-value
returns-in-None-clause-value c =
    let q = c.args.quote in
    let cs = chars c.args.text.now in
    let d = with_public c.args.doctype c.in_ok-shown.field-0 in
    let read =
    IsIdentifier-read q cs _ _ _ c.split_while.ensures.front c.split_while.ensures.rest c.in_ok-shown.ensures in
    c.ends_here.ensures.value ∙ system_or-other d (ends_here d) (chars c.skip-rest.result.now) c.in-None.ensures.value
    ∙ ap (system_or d (ends_here d)) c.skip-rest.ensures
    ∙ closed_public-some q d _ _ c.in-Some.ensures.value
    ∙ public_at-is c.args.doctype q cs _ _ read
