use Rattle.std.proofs.Common.{◌≡◌, fold, length, take, chars}
use Rattle.tree_formatting.specs.Prints.{mixed}
use Rattle.tree_formatting.proofs.prints.text_print.Given as goal

abbrev pub invariant-loop-c : goal.invariant-loop-c
invariant-loop-c l = l.taken ≡ fold mixed l.print (take (length l.yielded) (chars l.text))
