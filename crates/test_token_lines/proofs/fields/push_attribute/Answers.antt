use Rattle.std.proofs.Common.{append_assoc, rules}
use Rattle.std.proofs.lemmas.Result.{IfOk-equal}
use Rattle.std.specs.Str.{chars}
use Rattle.test_token_lines.proofs.fields.push_attribute.Goals as goal

pub returns : goal.returns
unfolding chars
returns c = search (rules, IfOk-equal, append_assoc)
