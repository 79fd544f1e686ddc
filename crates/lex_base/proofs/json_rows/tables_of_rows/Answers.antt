-- The table of a text, computed.
use Rattle.std.proofs.Common.{refl}
use Rattle.std.specs.Str.{chars}
use Rattle.serde_json.proofs.OnLiterals.{serde_json_on_literals}
use Rattle.lex_base.proofs.json_rows.tables_of_rows.Goals as goal

pub returns-clause-two : goal.returns-clause-two
unfolding serde_json_on_literals chars
returns-clause-two c = refl

pub returns-clause-two_characters : goal.returns-clause-two_characters
unfolding serde_json_on_literals chars
returns-clause-two_characters c = refl

pub returns-clause-empty : goal.returns-clause-empty
unfolding serde_json_on_literals chars
returns-clause-empty c = refl
