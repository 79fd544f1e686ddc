use Rattle.document_laws.proofs.NamedEscapes.{knows}
use Rattle.document_laws.proofs.escaped.a_table_of_these_names_knows_escapes.Goals as goal

pub returns : goal.returns
returns c = knows c.args.table.now c.names_are_names.ensures
