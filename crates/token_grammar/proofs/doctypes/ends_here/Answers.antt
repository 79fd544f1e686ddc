use Rattle.std.proofs.Common.{chars, ap, ◌∙◌}
use Rattle.token_grammar.specs.Slices.{after}
use Rattle.token_grammar.proofs.DoctypeLemmas.{ends_here-none, ends_here-some}
use Rattle.token_grammar.proofs.MarkLemmas.{greater_codes}
use Rattle.token_grammar.proofs.doctypes.ends_here.Goals as goal

pub returns-in-Some-clause-value : goal.returns-in-Some-clause-value
returns-in-Some-clause-value c =
    let cs = chars c.args.text.now in
    ends_here-some c.args.doctype cs _ (c.in-Some.ensures.value ∙ ap (λ m. after m cs) greater_codes)

pub returns-in-None-clause-value : goal.returns-in-None-clause-value
returns-in-None-clause-value c =
    let cs = chars c.args.text.now in
    c.cut_short.ensures.value ∙ ends_here-none c.args.doctype cs
    (c.in-None.ensures.value ∙ ap (λ m. after m cs) greater_codes)
