use Rattle.std.proofs.Common.{◌≡◌, length, take, chars}
use Rattle.text_lines.specs.Columns.{text_columns}
use Rattle.text_lines.proofs.tagged_string.columns_of.Given as goal

abbrev pub invariant-loop-c : goal.invariant-loop-c
invariant-loop-c l = l.columns ≡ text_columns (take (length l.yielded) (chars l.text))
