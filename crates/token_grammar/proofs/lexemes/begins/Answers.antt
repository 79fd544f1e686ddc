use Rattle.std.proofs.Common.{◌∙◌}
use Rattle.std.specs.Str.{chars}
use Rattle.token_grammar.proofs.LexemeLemmas.{some_after}
use Rattle.token_grammar.proofs.lexemes.begins.Goals as goal

pub returns : goal.returns
returns c =
    c.is_some.ensures ∙ some_after _ c.trailing.result (chars c.args.mark.now)
    (chars c.args.text.now) c.trailing.ensures.value
