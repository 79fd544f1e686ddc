use Rattle.std.proofs.Common.{◌++◌, List, chars, length, take, ℕ}
use Rattle.text_pieces.specs.declared.white_space.WhiteSpace.{WhiteSpace}
use Rattle.content_widths.specs.Reading.{IsReading}
use Rattle.content_widths.proofs.reading.Reading.after_text.Given as goal

abbrev pub invariant-loop-c : goal.invariant-loop-c
invariant-loop-c l = (mode : WhiteSpace) (cs : List ℕ) → IsReading l.fn.self mode cs
    → IsReading l.reading mode (cs ++ take (length l.yielded) (chars l.text))
