-- The first character belongs to the name, whether it is of the class or not.
use Rattle.std.proofs.Common.{chars, sym, ◌∙◌}
use Rattle.token_grammar.proofs.TagNameLemmas.{left-with_first, named-after_first, named-with_first}
use Rattle.token_grammar.proofs.tags.attribute_name.Goals as goal

pub returns-then-has-clause-name : goal.returns-then-has-clause-name
returns-then-has-clause-name c =
    named-with_first _ _ _ (chars c.args.trailing.now) c.args.first c.requires
    (sym c.has.ensures ∙ c.if-has.true) c.split_while.ensures.front c.in_ok-local_name.ensures

pub returns-then-has-clause-rest : goal.returns-then-has-clause-rest
returns-then-has-clause-rest c =
    left-with_first _ _ (chars c.args.trailing.now) c.args.first c.requires
    (sym c.has.ensures ∙ c.if-has.true) c.split_while.ensures.rest

pub returns-clause-name : goal.returns-clause-name
returns-clause-name c =
    named-after_first _ _ (chars c.args.trailing.now) c.args.first c.split_while-2.ensures.front
    (c.from-name.ensures ∙ c.in_ok-name_from.ensures)
