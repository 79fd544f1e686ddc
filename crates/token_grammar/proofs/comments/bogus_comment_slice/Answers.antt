use Rattle.std.proofs.Common.{chars, refl, ap, ◌∙◌}
use Rattle.token_grammar.specs.Read.{cut_of}
use Rattle.token_grammar.specs.Slices.{cut_or_all}
use Rattle.token_grammar.proofs.MarkLemmas.{cut_of-or_all}
use Rattle.token_grammar.proofs.comments.bogus_comment_slice.Goals as goal

pub returns-clause-value : goal.returns-clause-value
returns-clause-value c =
    let cs = chars c.args.text.now in
    ap cut_of c.unwrap_or.ensures ∙ cut_of-or_all c.cut_at_character.result c.args.text _ refl ∙
    ap (λ o. cut_or_all o cs) c.cut_at_character.ensures.value
