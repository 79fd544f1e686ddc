use Rattle.std.proofs.Common.{ap, bytes_eq, chars, ◌∙◌}
use Rattle.tree_predicates.specs.Attributes.{in_lower_case}
use Rattle.tree_predicates.proofs.WordLemmas.{word_chars}
use Rattle.tree_predicates.proofs.words.is_in_lower_case.Goals as goal

pub returns : goal.returns
returns c = c.is_lower_case_of.ensures
    ∙ ap (bytes_eq (in_lower_case (chars c.args.text.now))) (word_chars c.args.word.now c.requires)
