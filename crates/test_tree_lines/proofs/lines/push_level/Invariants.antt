use Rattle.std.proofs.Common.{◌≡◌, ◌++◌, chars, replicate, string_bytes}
use Rattle.test_tree_lines.proofs.lines.push_level.Given as goal

abbrev pub invariant-spaces : goal.invariant-spaces
invariant-spaces l = chars (string_bytes l.lines) ≡ chars (string_bytes l.fn.lines) ++ replicate l.counter 32
