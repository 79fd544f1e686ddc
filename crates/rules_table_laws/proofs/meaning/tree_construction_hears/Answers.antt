use Rattle.rules_table_laws.specs.Hearing.{meaning-hearing}
use Rattle.rules_table_laws.proofs.meaning.tree_construction_hears.Goals as goal

pub returns : goal.returns
returns g c = λ handle. meaning-hearing handle
