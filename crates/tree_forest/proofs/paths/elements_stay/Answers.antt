use Rattle.tree_forest.proofs.LawAttributes.{contents_stay_at, name_stays}
use Rattle.tree_forest.proofs.ElementLemmas.{element_attributes, element_held, element_words, kind_made_element}
use Rattle.tree_forest.proofs.Nodes.{kind_made}
use Rattle.tree_forest.proofs.paths.elements_stay.Goals as goal

pub returns-clause-there : goal.returns-clause-there
returns-clause-there c = element_held

pub returns-clause-made : goal.returns-clause-made
returns-clause-made c = λ kind n f held. kind_made n kind f held

pub returns-clause-made_element : goal.returns-clause-made_element
returns-clause-made_element c = kind_made_element

pub returns-clause-words : goal.returns-clause-words
returns-clause-words c = element_words

pub returns-clause-attributes : goal.returns-clause-attributes
returns-clause-attributes c = element_attributes

pub returns-clause-attribute_names : goal.returns-clause-attribute_names
returns-clause-attribute_names c = name_stays

pub returns-clause-attribute_contents : goal.returns-clause-attribute_contents
returns-clause-attribute_contents c = contents_stay_at
