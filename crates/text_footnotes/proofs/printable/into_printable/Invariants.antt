use Rattle.std.proofs.Common.{◌≡◌, chars, length, string_bytes, take}
use Rattle.text_footnotes.specs.Printable.{printable}
use Rattle.text_footnotes.proofs.printable.into_printable.Given as goal

abbrev pub invariant-loop-c : goal.invariant-loop-c
invariant-loop-c l = chars (string_bytes l.text)
    ≡ printable (take (length l.yielded) (chars (string_bytes l.fn.target)))
