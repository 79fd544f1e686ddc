use Rattle.tree_forest.proofs.LawNodes.{changed_other}
use Rattle.tree_forest.proofs.Nodes.{node_made}
use Rattle.tree_forest.proofs.LawPlaces.{out_kinds, out_others, put_children, put_kinds, reparented_children}
use Rattle.tree_forest.proofs.LawPlaces.{reparented_kinds}
use Rattle.tree_forest.proofs.LawTexts.{words_kinds}
use Rattle.tree_forest.proofs.laws.what_was_not_named_stays.Goals as goal

pub returns-clause-put_kinds : goal.returns-clause-put_kinds
returns-clause-put_kinds c = put_kinds

pub returns-clause-put_children : goal.returns-clause-put_children
returns-clause-put_children c = λ place n q f forest is_place off. put_children place n q f forest off

pub returns-clause-words : goal.returns-clause-words
returns-clause-words c = words_kinds

pub returns-clause-taken_out_kinds : goal.returns-clause-taken_out_kinds
returns-clause-taken_out_kinds c = out_kinds

pub returns-clause-taken_out_children : goal.returns-clause-taken_out_children
returns-clause-taken_out_children c = out_others

pub returns-clause-made : goal.returns-clause-made
returns-clause-made c = node_made

pub returns-clause-reparented_kinds : goal.returns-clause-reparented_kinds
returns-clause-reparented_kinds c = reparented_kinds

pub returns-clause-reparented_children : goal.returns-clause-reparented_children
returns-clause-reparented_children c = reparented_children

pub returns-clause-attributes : goal.returns-clause-attributes
returns-clause-attributes c = λ n m more f off. changed_other _ n m f off
