use Rattle.rules_table_laws.specs.Lawful.{meaning-lawful}
use Rattle.rules_table_laws.proofs.meaning.tree_construction_is_lawful.Goals as goal

pub returns : goal.returns
returns g c = λ handle. meaning-lawful handle
