use Rattle.std.proofs.Common.{rules}
use Rattle.std.specs.Str.{chars}
use Rattle.test_token_lines.proofs.fields.push_null.Goals as goal

pub returns : goal.returns
unfolding chars
returns c = search rules
