-- A value in quotes is cut at its quote.
use Rattle.token_grammar.proofs.TagValueLemmas.{quoted-by_double, quoted-by_single}
use Rattle.token_grammar.proofs.tags.written_value.Goals as goal

pub returns-in-Some-eq34-default-clause-value : goal.returns-in-Some-eq34-default-clause-value
returns-in-Some-eq34-default-clause-value c =
    quoted-by_double _ _ _ _ c.in-Some-eq34-default.ensures.value c.in-Some-eq34-default.field-0-0-test
    c.cut_at_character.ensures.value

pub returns-in-Some-eq39-default-clause-value : goal.returns-in-Some-eq39-default-clause-value
returns-in-Some-eq39-default-clause-value c =
    quoted-by_single _ _ _ _ c.in-Some-eq39-default.ensures.value c.in-Some-eq39-default.field-0-0-test
    c.cut_at_character-in-Some-eq39-default.ensures.value
