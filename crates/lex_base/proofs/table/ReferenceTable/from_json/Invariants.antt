use Rattle.std.proofs.Common.{◌≡◌}
use Rattle.serde_json.specs.View.{members_view}
use Rattle.lex_base.specs.Json.{references_in, table_of_json}
use Rattle.lex_base.proofs.JsonLemmas.{filled}
use Rattle.lex_base.proofs.table.ReferenceTable.from_json.Given as goal

abbrev pub invariant-members : goal.invariant-members
invariant-members l = filled l.table (references_in (members_view l.key-iterator)) ≡ table_of_json l.text
