use Rattle.std.proofs.Common.{length, take}
use Rattle.text_lines.specs.Tagged.{elements_items, line_elements}
use Rattle.text_normal.specs.NormalStates.{Cuts}
use Rattle.text_normal.proofs.filling.Filling.cut_word.Given as goal

abbrev pub invariant-loop-element : goal.invariant-loop-element
invariant-loop-element g l =
    Cuts g.T.EqualCopy.seen l.fn.self l.self (elements_items g.T.EqualCopy.seen
    (take (length l.yielded) (line_elements l.word)))
