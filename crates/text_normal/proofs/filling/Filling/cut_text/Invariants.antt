use Rattle.std.proofs.Common.{length, take, chars}
use Rattle.text_lines.specs.Tagged.{tagged}
use Rattle.text_normal.specs.NormalStates.{Cuts}
use Rattle.text_normal.proofs.filling.Filling.cut_text.Given as goal

abbrev pub invariant-loop-c : goal.invariant-loop-c
invariant-loop-c g l =
    Cuts g.T.EqualCopy.seen l.fn.self l.self (tagged (take (length l.yielded) (chars l.text))
    (g.T.EqualCopy.seen l.tag))
