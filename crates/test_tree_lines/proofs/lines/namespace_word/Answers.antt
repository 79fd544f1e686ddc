use Rattle.std.proofs.Common.{rules}
use Rattle.std.specs.Str.{chars}
use Rattle.test_tree_lines.proofs.lines.namespace_word.Goals as goal

pub returns-in-Html : goal.returns-in-Html
unfolding chars
returns-in-Html c = search rules

pub returns-in-MathMl : goal.returns-in-MathMl
unfolding chars
returns-in-MathMl c = search rules

pub returns-in-Svg : goal.returns-in-Svg
unfolding chars
returns-in-Svg c = search rules
