use Rattle.std.proofs.Common.{append_assoc, rules}
use Rattle.std.proofs.lemmas.Result.{IfOk-equal}
use Rattle.std.specs.Str.{chars}
use Rattle.test_tree_lines.proofs.lines.push_data.Goals as goal

pub returns-in-Text : goal.returns-in-Text
unfolding chars
returns-in-Text c = search (rules, IfOk-equal, append_assoc)

pub returns-in-Comment : goal.returns-in-Comment
unfolding chars
returns-in-Comment c = search (rules, IfOk-equal, append_assoc)
