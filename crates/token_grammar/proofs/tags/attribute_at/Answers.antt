-- The attribute that was read is that of the grammar.
use Rattle.std.proofs.Common.{chars, refl, ap, ◌∙◌}
use Rattle.std.proofs.lemmas.Str.{chars-nil}
use Rattle.token_grammar.specs.Classes.{is_of}
use Rattle.token_grammar.specs.Slices.{front_while}
use Rattle.token_grammar.specs.declared.slices.CharacterClass.TheVariants.{AttributeName}
use Rattle.token_grammar.proofs.TagLemmas.{attribute-read}
use Rattle.token_grammar.proofs.tags.attribute_at.Goals as goal

pub returns-clause-value : goal.returns-clause-value
returns-clause-value c =
    attribute-read c.args.table.now c.args.first (chars c.args.trailing.now)
    (front_while (is_of AttributeName) (chars c.args.trailing.now)) (chars c.in_ok-name.rest.now)
    (chars c.in-Some.value.now) (chars c.in-Some.rest.now) c.from.result c.in_ok-name.name c.in_ok-value_of.field-0
    c.new-2.result
    refl c.in_ok-name.ensures.rest c.in-Some.ensures.value c.new-2.ensures
    (c.from.ensures ∙ ap chars c.new.ensures.bytes ∙ chars-nil) c.in_ok-name.ensures.name c.in_ok-value_of.ensures
