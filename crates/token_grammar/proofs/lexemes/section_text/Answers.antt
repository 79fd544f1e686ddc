use Rattle.std.proofs.Common.{chars, ap, ◌∙◌}
use Rattle.token_grammar.specs.Slices.{after}
use Rattle.token_grammar.proofs.LexemeLemmas.{section_mark, section_if}
use Rattle.token_grammar.proofs.lexemes.section_text.Goals as goal

pub returns-clause-value : goal.returns-clause-value
returns-clause-value c =
    section_if c.args.foreign (chars c.args.text.now) _ c.if-not-foreign.false
    (c.trailing.ensures.value ∙ ap (λ m. after m (chars c.args.text.now)) section_mark)
