use Rattle.std.proofs.Common.{chars}
use Rattle.token_grammar.proofs.NameLemmas.{no_name, name_and_rest, name_stands}
use Rattle.token_grammar.proofs.references.named.Goals as goal

pub returns-in_default-clause-value : goal.returns-in_default-clause-value
returns-in_default-clause-value c = no_name c.args.table.now (chars c.args.text.now) c.in_default.ensures

pub returns-in_default-trailing-clause-value : goal.returns-in_default-trailing-clause-value
returns-in_default-trailing-clause-value c =
    absurd (name_stands c.args.table.now (chars c.args.text.now) (chars c.in-Some.longest.name.now)
    (chars c.in-Some.longest.value.now) c.in-Some.ensures c.in_default-trailing.ensures.value)

pub returns-clause-value : goal.returns-clause-value
returns-clause-value c =
    name_and_rest c.args.table.now (chars c.args.text.now) (chars c.in-Some.longest.name.now)
    (chars c.in-Some.longest.value.now) (chars c.in-Some-trailing.rest.now) c.in_ok-from_str.field-0
    c.is_closed.result c.in-Some.ensures c.in-Some-trailing.ensures.value c.in_ok-from_str.ensures c.is_closed.ensures
