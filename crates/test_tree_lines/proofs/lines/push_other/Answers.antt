use Rattle.std.proofs.Common.{rules}
use Rattle.std.specs.Str.{chars}
use Rattle.test_tree_lines.proofs.lines.push_other.Goals as goal

pub returns : goal.returns
unfolding chars
returns c = search rules
