use Rattle.std.proofs.Common.{rules}
use Rattle.std.specs.Str.{chars}
use Rattle.test_tree_lines.proofs.tree_lines.word_of.Goals as goal

pub returns-in-Quirks : goal.returns-in-Quirks
unfolding chars
returns-in-Quirks c = search rules

pub returns-in-LimitedQuirks : goal.returns-in-LimitedQuirks
unfolding chars
returns-in-LimitedQuirks c = search rules

pub returns-in-NoQuirks : goal.returns-in-NoQuirks
unfolding chars
returns-in-NoQuirks c = search rules
