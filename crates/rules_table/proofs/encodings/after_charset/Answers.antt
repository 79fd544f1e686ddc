use Rattle.std.proofs.Common.{ap, chars, option_and_then, ◌∙◌}
use Rattle.token_grammar.specs.Slices.{after_word}
use Rattle.rules_table.specs.Encodings.{after_equals}
use Rattle.rules_table.proofs.EncodingLemmas.{charset_codes}
use Rattle.rules_table.proofs.encodings.after_charset.Goals as goal

pub returns-in-Some-clause-rest : goal.returns-in-Some-clause-rest
returns-in-Some-clause-rest c = c.after_equals.ensures.rest
    ∙ ap (option_and_then after_equals) (c.in-Some.ensures.value
    ∙ ap (λ word. after_word word (chars c.args.text.now)) charset_codes)

pub returns-in-None-clause-rest : goal.returns-in-None-clause-rest
returns-in-None-clause-rest c = ap (option_and_then after_equals) (c.in-None.ensures.value
    ∙ ap (λ word. after_word word (chars c.args.text.now)) charset_codes)
