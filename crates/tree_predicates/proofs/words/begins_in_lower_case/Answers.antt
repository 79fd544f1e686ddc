use Rattle.std.proofs.Common.{ap, chars, ◌∙◌}
use Rattle.tree_predicates.specs.Attributes.{in_lower_case}
use Rattle.tree_predicates.specs.Quirks.{begins_with}
use Rattle.tree_predicates.proofs.WordLemmas.{begins, word_chars}
use Rattle.tree_predicates.proofs.words.begins_in_lower_case.Goals as goal

pub returns : goal.returns
returns c = c.is_some.ensures
    ∙ begins (chars c.args.text.now) (chars c.args.word.now) _ c.after_in_lower_case.ensures.value
    ∙ ap (begins_with (in_lower_case (chars c.args.text.now))) (word_chars c.args.word.now c.requires)
