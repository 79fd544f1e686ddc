use Rattle.std.proofs.Common.{chars, refl, ap, ◌∙◌}
use Rattle.token_grammar.specs.Lexemes.{cdata_lexeme, emitted}
use Rattle.token_grammar.specs.Read.{cut_of}
use Rattle.token_grammar.specs.Slices.{after, cut, cut_or_all}
use Rattle.token_grammar.proofs.LexemeLemmas.{section_end}
use Rattle.token_grammar.proofs.MarkLemmas.{cut_of-or_all}
use Rattle.token_grammar.proofs.lexemes.section.Goals as goal

pub returns-clause-value : goal.returns-clause-value
returns-clause-value c =
    let cs = chars c.args.text.now in
    let e = ap cut_of c.unwrap_or.ensures ∙ cut_of-or_all c.cut_at.result c.args.text _ refl ∙
    ap (λ o. cut_or_all o cs) (c.cut_at.ensures.value ∙ ap (λ m. cut (after m) cs) section_end) in
    ap (λ items. emitted items c.args.mode.now (chars c.unwrap_or.result.1.now)) c.in_ok-tokens_of.ensures ∙
    ap (cdata_lexeme c.args.mode.now) e
