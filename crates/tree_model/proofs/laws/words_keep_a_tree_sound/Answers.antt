use Rattle.tree_model.proofs.KeptWords.{words_kept}
use Rattle.tree_model.proofs.laws.words_keep_a_tree_sound.Goals as goal

pub returns : goal.returns
returns c = words_kept c.laws_of_forests.ensures
