use Rattle.std.proofs.Common.{chars, ap, ◌∙◌, unwrap_or}
use Rattle.token_grammar.specs.Edges.{before}
use Rattle.token_grammar.proofs.MarkLemmas.{begun_codes, dash_codes, dashes_codes, option_map-unwrap_or, or_is}
use Rattle.token_grammar.proofs.MarkLemmas.{without_begun_mark_is}
use Rattle.token_grammar.proofs.comments.without_begun_mark.Goals as goal

pub returns : goal.returns
returns c =
    let cs = chars c.args.text.now in
    let begun =
    or_is (λ front. chars front.now) _ _ _ _ _ c.or-begun.ensures
    (c.before-2.ensures.value ∙ ap (λ m. before m cs) begun_codes)
    (c.before-3.ensures.value ∙ ap (λ m. before m cs) dashes_codes) in
    let all =
    or_is (λ front. chars front.now) _ _ _ _ _ c.or.ensures begun
    (c.before-4.ensures.value ∙ ap (λ m. before m cs) dash_codes) in
    ap (λ front. chars front.now) c.unwrap_or.ensures ∙
    option_map-unwrap_or (λ front. chars front.now) c.or.result c.args.text ∙ ap (λ o. unwrap_or o cs) all ∙
    without_begun_mark_is cs
