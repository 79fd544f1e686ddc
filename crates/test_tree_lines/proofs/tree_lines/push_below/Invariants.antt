use Rattle.std.proofs.Common.{◌≡◌, ◌++◌, chars, length, string_bytes}
use Rattle.test_tree_lines.specs.ToCome.{lines_to_come}
use Rattle.test_tree_lines.specs.TreeLines.{lines_below}
use Rattle.test_tree_lines.proofs.tree_lines.push_below.Given as goal

-- what is written and what is to come are the whole
abbrev pub invariant-nodes : goal.invariant-nodes
invariant-nodes l =
    chars (string_bytes l.lines) ++ lines_to_come l.dom.forest l.coming.items
    ≡ chars (string_bytes l.fn.lines) ++ lines_below l.dom.forest

abbrev pub decreases-nodes : goal.decreases-nodes
decreases-nodes l = length (lines_to_come l.dom.forest l.coming.items)
