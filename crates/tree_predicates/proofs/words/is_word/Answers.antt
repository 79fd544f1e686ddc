use Rattle.std.proofs.Common.{◌∙◌}
use Rattle.tree_predicates.proofs.WordLemmas.{same_word}
use Rattle.tree_predicates.proofs.words.is_word.Goals as goal

pub returns : goal.returns
returns c = c.eq.ensures ∙ same_word c.args.text.now c.args.word.now c.utf8.text c.requires
