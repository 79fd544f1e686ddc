use Rattle.std.proofs.Common.{append_assoc, rules}
use Rattle.std.proofs.lemmas.Result.{IfOk-equal}
use Rattle.std.specs.Str.{chars}
use Rattle.test_tree_lines.proofs.lines.push_contents.Goals as goal

pub returns-in_ok-push_level-in-Some : goal.returns-in_ok-push_level-in-Some
unfolding chars
returns-in_ok-push_level-in-Some c = search (rules, IfOk-equal, append_assoc)
