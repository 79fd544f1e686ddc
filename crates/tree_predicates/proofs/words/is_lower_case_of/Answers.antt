use Rattle.std.proofs.Common.{chars, ◌∙◌}
use Rattle.tree_predicates.specs.Attributes.{in_lower_case}
use Rattle.tree_predicates.proofs.WordLemmas.{is_whole, not_the_word}
use Rattle.tree_predicates.proofs.words.is_lower_case_of.Goals as goal

pub returns-in-Some : goal.returns-in-Some
returns-in-Some c = c.is_empty.ensures ∙ is_whole (chars c.args.text.now) (chars c.args.word.now) _
    c.in-Some.ensures.utf8 c.in-Some.ensures.value

pub returns-in-None : goal.returns-in-None
returns-in-None c = not_the_word (in_lower_case (chars c.args.text.now)) (chars c.args.word.now) c.in-None.ensures.value
