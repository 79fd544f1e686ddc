use Rattle.tree_forest.proofs.PathLemmas.{above_attributes, above_made, above_made_element, above_put, above_reparented}
use Rattle.tree_forest.proofs.PathLemmas.{above_taken_out, above_words, both_held}
use Rattle.tree_forest.proofs.paths.what_stands_above_what.Goals as goal

pub returns-clause-there : goal.returns-clause-there
returns-clause-there c = both_held

pub returns-clause-made : goal.returns-clause-made
returns-clause-made c = above_made

pub returns-clause-made_element : goal.returns-clause-made_element
returns-clause-made_element c = above_made_element

pub returns-clause-put : goal.returns-clause-put
returns-clause-put c = above_put

pub returns-clause-words : goal.returns-clause-words
returns-clause-words c = above_words

pub returns-clause-taken_out : goal.returns-clause-taken_out
returns-clause-taken_out c = above_taken_out

pub returns-clause-reparented : goal.returns-clause-reparented
returns-clause-reparented c = λ old new a b f forest can up. above_reparented old new a b f up

pub returns-clause-attributes : goal.returns-clause-attributes
returns-clause-attributes c = above_attributes
