use Rattle.lex_base.specs.References.{basic}
use Rattle.paragraph_laws.proofs.OneList.{one_page}
use Rattle.paragraph_laws.proofs.trees.one_list.Goals as goal

pub returns : goal.returns
returns c = one_page basic c.the_basic_table_knows_escapes.ensures
