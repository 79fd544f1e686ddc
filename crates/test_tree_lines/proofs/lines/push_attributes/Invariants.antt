use Rattle.std.proofs.Common.{◌≡◌, ◌++◌, chars, drop, string_bytes}
use Rattle.test_tree_lines.specs.TreeLines.{attribute_lines}
use Rattle.test_tree_lines.proofs.lines.push_attributes.Given as goal

abbrev pub invariant-loop-attribute : goal.invariant-loop-attribute
invariant-loop-attribute l =
    chars (string_bytes l.lines) ++ attribute_lines l.level (drop l.attribute-index l.attribute-items)
    ≡ chars (string_bytes l.fn.lines) ++ attribute_lines l.level l.attributes
