-- The table of a text, computed.
use Rattle.std.proofs.Common.{refl}
use Rattle.std.specs.Str.{chars}
use Rattle.serde_json.proofs.OnLiterals.{serde_json_on_literals}
use Rattle.lex_base.proofs.json_rows.faults_of_rows.Goals as goal

pub returns-clause-cut_short : goal.returns-clause-cut_short
unfolding serde_json_on_literals chars
returns-clause-cut_short c = refl

pub returns-clause-list : goal.returns-clause-list
unfolding serde_json_on_literals chars
returns-clause-list c = refl

pub returns-clause-no_ampersand : goal.returns-clause-no_ampersand
unfolding serde_json_on_literals chars
returns-clause-no_ampersand c = refl

pub returns-clause-no_code_point : goal.returns-clause-no_code_point
unfolding serde_json_on_literals chars
returns-clause-no_code_point c = refl

pub returns-clause-surrogate : goal.returns-clause-surrogate
unfolding serde_json_on_literals chars
returns-clause-surrogate c = refl

pub returns-clause-name_first : goal.returns-clause-name_first
unfolding serde_json_on_literals chars
returns-clause-name_first c = refl
