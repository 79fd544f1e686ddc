use Rattle.std.proofs.Common.{append_assoc, rules}
use Rattle.std.proofs.lemmas.Result.{IfOk-equal}
use Rattle.std.specs.Str.{chars}
use Rattle.test_token_lines.proofs.fields.push_flag.Goals as goal

pub returns-else-is_set : goal.returns-else-is_set
unfolding chars
returns-else-is_set c = search (rules, IfOk-equal, append_assoc)
