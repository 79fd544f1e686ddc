use Rattle.std.proofs.Common.{append_assoc, rules}
use Rattle.std.proofs.lemmas.Result.{IfOk-equal}
use Rattle.std.specs.Str.{chars}
use Rattle.test_tree_lines.proofs.lines.push_instruction.Goals as goal

pub returns : goal.returns
unfolding chars
returns c = search (rules, IfOk-equal, append_assoc)
