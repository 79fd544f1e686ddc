use Rattle.std.proofs.Common.{chars, ap, ◌∙◌}
use Rattle.token_grammar.specs.Slices.{after}
use Rattle.token_grammar.proofs.MarkLemmas.{bang_codes, end_codes, or_is}
use Rattle.token_grammar.proofs.comments.after_mark.Goals as goal

pub returns-clause-value : goal.returns-clause-value
returns-clause-value c =
    let cs = chars c.args.text.now in
    or_is (λ rest. chars rest.now) _ _ _ _ _ c.or.ensures (c.trailing.ensures.value ∙ ap (λ m. after m cs) end_codes)
    (c.trailing-2.ensures.value ∙ ap (λ m. after m cs) bang_codes)
