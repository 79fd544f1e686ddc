use Rattle.std.proofs.Common.{Some, ap, chars, codes, option_map, ◌∙◌}
use Rattle.token_grammar.specs.Slices.{after}
use Rattle.rules_table.specs.Encodings.{without_white_space}
use Rattle.rules_table.proofs.EncodingLemmas.{equals_codes}
use Rattle.rules_table.proofs.encodings.after_equals.Goals as goal

pub returns-in-Some-clause-rest : goal.returns-in-Some-clause-rest
returns-in-Some-clause-rest c = ap Some c.without_white_space-in-Some.ensures
    ∙ ap (option_map without_white_space) (c.in-Some.ensures.value
    ∙ ap (λ mark. after mark (chars c.without_white_space.result.now)) equals_codes
    ∙ ap (after (codes "=")) c.without_white_space.ensures)

pub returns-in-None-clause-rest : goal.returns-in-None-clause-rest
returns-in-None-clause-rest c = ap (option_map without_white_space) (c.in-None.ensures.value
    ∙ ap (λ mark. after mark (chars c.without_white_space.result.now)) equals_codes
    ∙ ap (after (codes "=")) c.without_white_space.ensures)
