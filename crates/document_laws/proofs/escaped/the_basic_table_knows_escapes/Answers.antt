use Rattle.document_laws.proofs.BasicTable.{basic_knows}
use Rattle.document_laws.proofs.escaped.the_basic_table_knows_escapes.Goals as goal

pub returns : goal.returns
returns c = basic_knows
