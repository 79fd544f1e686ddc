-- A value stands after `=`, over spaces.
use Rattle.std.proofs.Common.{chars}
use Rattle.token_grammar.proofs.TagValueLemmas.{value-found, value-missing}
use Rattle.token_grammar.proofs.tags.value_after.Goals as goal

pub returns-clause-value : goal.returns-clause-value
returns-clause-value c =
    value-found (chars c.args.text.now) _ _ _ _ c.split_while.ensures.rest c.in-Some.ensures.value
    c.split_while-2.ensures.rest c.written_value.ensures.value

pub returns-in_default-clause-value : goal.returns-in_default-clause-value
returns-in_default-clause-value c =
    value-missing (chars c.args.text.now) _ c.split_while.ensures.rest c.in_default.ensures.value
